-- The two laws of the equality of contents, and what follows from them alone.
-- Assumes nothing.
use Prim.Native.Nat.{ℕ, ◌<◌}
use mathlib.Core.Path.{◌≡◌, refl, sym, ◌∙◌}
use mathlib.Core.Logic.{◌≢◌}
use mathlib.Core.Bool.{Bool, true, false, true≢false}
use borrow.Author.Tests.{eqb-true, eq-eqb}
use Rattle.memory.specs.Content.{Content, same_content, content_of, number_of}
use Rattle.memory.specs.Statements.{SameContent, ContentSame}

pub same_content_lem : SameContent
unfolding same_content
same_content_lem x y e = eqb-true x y e

pub content_same : ContentSame
unfolding same_content
content_same x y e = eq-eqb x y e

-- a content that is nothing but its number
abbrev pub Single : Content → Type 0
Single y = content_of (number_of y) ≡ y

-- a content that is nothing but a number below q
abbrev pub ContentBelow : ℕ → Content → Type 0
ContentBelow q y = (number_of y < q) × Single y

-- contents that are not the same are different
pub other_content : (x y : Content) → same_content x y ≡ false → x ≢ y
other_content x y e same = true≢false (sym (content_same x y same) ∙ e)

-- contents are equal or not
pub content_discrete : (x y : Content) → Dec (x ≡ y)
content_discrete x y = split (same_content x y) refl
  where
    split : (b : Bool) → same_content x y ≡ b → Dec (x ≡ y)
    split true e = yes (same_content_lem x y e)
    split false e = no (other_content x y e)
