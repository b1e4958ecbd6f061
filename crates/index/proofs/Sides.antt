-- Two children in a word.
--     side_put        the node that was put on a side stands there
--     side_kept       and the other side is as it was
--     side_none       a word of 0 has no child
--     side_same       of a key only its parity matters
-- Assumes nothing.
use Prim.Native.Nat.{ℕ, ◌+◌, ◌*◌, ◌/◌, ◌%◌, ◌<◌}
use native.Mathlib.Omega.{arith}
use mathlib.Core.Bool.{Bool, true, false, cond}
use mathlib.Core.Path.{◌≡◌, refl, sym, ap, ◌∙◌}
use lib.Dec.{eqb}
use borrow.Author.Tests.{eqb-true, eqb-false}
use Rattle.memory.specs.Rows.{limit}
use Rattle.index.specs.Tree.{side_of, joined}

pub side_put : (key other word k : ℕ) → key % 2 ≡ other % 2 → k < limit → side_of key (joined other word k) ≡ k
unfolding side_of joined limit
side_put key other word k e h =
    ap (λ (x : ℕ). cond (eqb x 0) (w / 65536 % 65536) (w % 65536)) e ∙ go (eqb (other % 2) 0)
  where
    w : ℕ
    w = joined other word k

    go : (b : Bool) → let v = cond b (k % 65536 * 65536 + word % 65536) (word / 65536 % 65536 * 65536 + k % 65536) in cond b (v / 65536 % 65536) (v % 65536) ≡ k
    go true = omega arith
    go false = omega arith

pub side_kept : (key other word k : ℕ) → (key % 2 ≡ other % 2 → ⊥) → side_of key (joined other word k) ≡ side_of key word
unfolding side_of joined limit
side_kept key other word k n = go (eqb (key % 2) 0) (eqb (other % 2) 0) refl refl
  where
    go : (b d : Bool) → eqb (key % 2) 0 ≡ b → eqb (other % 2) 0 ≡ d
        → let v = cond d (k % 65536 * 65536 + word % 65536) (word / 65536 % 65536 * 65536 + k % 65536) in cond b (v / 65536 % 65536) (v % 65536) ≡ cond b (word / 65536 % 65536) (word % 65536)
    go true true p q = absurd (n (eqb-true _ _ p ∙ sym (eqb-true _ _ q)))
    go true false p q = omega arith
    go false true p q = omega arith
    go false false p q =
        let l = eqb-false _ _ p in
        let m = eqb-false _ _ q in
        absurd (n (omega arith))

pub side_none : (key : ℕ) → side_of key 0 ≡ 0
unfolding side_of limit
side_none key = go (eqb (key % 2) 0)
  where
    go : (b : Bool) → cond b (0 / 65536 % 65536) (0 % 65536) ≡ 0
    go true = refl
    go false = refl

pub side_same : (key other word : ℕ) → key % 2 ≡ other % 2 → side_of key word ≡ side_of other word
unfolding side_of
side_same key other word e = ap (λ (x : ℕ). cond (eqb x 0) (word / limit % limit) (word % limit)) e
