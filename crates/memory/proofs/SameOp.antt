-- Two ops are equal exactly where their codes are.
-- Assumes nothing.
use Rattle.std.proofs.Common.{◌≡◌, ℕ, refl, ap, ◌∙◌}
use denote.Enum.Declared.{tag_of}
use denote.Enum.Bare.{sameb}
use Rattle.std.specs.Prelude.{eqb}
use Rattle.memory.specs.contracts.Op.{the_type}
use Rattle.memory.specs.declared.Op.{Op}
use Rattle.memory.specs.declared.Op.TheVariants.{Init, Access, Look, Member, Push, Pop, Enqueue, Dequeue, End, Range, Other}
use Rattle.memory.specs.Names.{op_code, is_op}

-- the number of an op among its like is its code
tag_code : (x : Op) → tag_of the_type x ≡ op_code x
unfolding op_code
tag_code Init = refl
tag_code Access = refl
tag_code Look = refl
tag_code Member = refl
tag_code Push = refl
tag_code Pop = refl
tag_code Enqueue = refl
tag_code Dequeue = refl
tag_code End = refl
tag_code Range = refl
tag_code Other = refl

pub same_op : (x y : Op) → sameb the_type x y ≡ is_op x y
unfolding is_op
same_op x y = ap (λ (k : ℕ). eqb k (tag_of the_type y)) (tag_code x) ∙ ap (eqb (op_code x)) (tag_code y)
