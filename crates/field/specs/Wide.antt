-- The larger field's prime.
-- Assumes nothing.
use Rattle.std.specs.Prelude.{ℕ}

-- 2⁶¹ − 1
unfoldable pub p61 : ℕ
p61 = 2305843009213693951
