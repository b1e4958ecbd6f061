-- The weight that is 1 at one record and 0 at every other: its sum over a list counts how often the record occurs.
-- Assumes nothing.
use Prim.Native.Nat.{ℕ, ◌<◌}
use mathlib.Core.Path.{◌≡◌, refl}
use mathlib.Core.Logic.{◌⊎◌, inl, inr}
use mathlib.Core.Bool.{Bool, true, false, ◌&&◌}
use native.Mathlib.Nat.{eq-zero-or-pos}
use native.Mathlib.Omega.{arith}
use lib.Dec.{eqb}
use borrow.Author.Tests.{eqb-true, eq-eqb}
use Rattle.algebra.specs.Sum.{bit}
use Rattle.memory.specs.Content.{same_content}
use Rattle.memory.specs.Equations.{Triple}
use Rattle.memory.proofs.Content.{same_content_lem, content_same}

-- the weight that counts one record
unfoldable pub is_record : Triple → Triple → ℕ
is_record r s = bit (eqb r.x s.x && (same_content r.y s.y && eqb r.z s.z))

-- the parts of two records are equal
abbrev pub SameParts : Triple → Triple → Type 0
SameParts r s = (r.x ≡ s.x) × (r.y ≡ s.y) × (r.z ≡ s.z)

pub record_itself : (r : Triple) → is_record r r ≡ 1
unfolding is_record bit
record_itself r = simp (eq-eqb r.x r.x refl, content_same r.y r.y refl, eq-eqb r.z r.z refl)

bit_both : (a b : Bool) → 0 < bit (a && b) → (0 < bit a) × (0 < bit b)
unfolding bit
bit_both true b h = (omega arith, h)
bit_both false b h = absurd (omega arith)

bit_true : (b : Bool) → 0 < bit b → b ≡ true
unfolding bit
bit_true true h = refl
bit_true false h = absurd (omega arith)

-- a record that it counts has the same parts
pub counted_parts : (r s : Triple) → 0 < is_record r s → SameParts r s
unfolding is_record
counted_parts r s h =
    let outer = bit_both (eqb r.x s.x) (same_content r.y s.y && eqb r.z s.z) h in
    let inner = bit_both (same_content r.y s.y) (eqb r.z s.z) outer.1 in (
      eqb-true r.x s.x (bit_true (eqb r.x s.x) outer.0),
      same_content_lem r.y s.y (bit_true (same_content r.y s.y) inner.0),
      eqb-true r.z s.z (bit_true (eqb r.z s.z) inner.1),
    )

-- a record whose parts are not equal is not counted
pub not_counted : (r s : Triple) → (SameParts r s → ⊥) → is_record r s ≡ 0
not_counted r s apart = go (eq-zero-or-pos (is_record r s))
  where
    go : (is_record r s ≡ 0) ⊎ (0 < is_record r s) → is_record r s ≡ 0
    go (inl e) = e
    go (inr h) = absurd (apart (counted_parts r s h))
