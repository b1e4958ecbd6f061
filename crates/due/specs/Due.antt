-- What the code's answers on due rows stand for.
-- Assumes nothing.
use Rattle.std.specs.Prelude.{List, [], ◌∷◌}
use Rattle.memory.specs.declared.Op.{Op}
use Rattle.due.specs.declared.Allowed.{Allowed}
use Rattle.due.specs.declared.Allowed.TheVariants.{Nothing, One, Either}

-- the ops that may come next
unfoldable pub ops_of : Allowed → List Op
ops_of Nothing = []
ops_of (One x) = x ∷ []
ops_of (Either x y) = x ∷ y ∷ []
