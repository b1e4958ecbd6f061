-- Numbers put one after another, a comma before each: what is still to come after some of them.
-- Assumes nothing.
use Rattle.std.proofs.Common.{◌≡◌, ℕ, ◌+◌, ◌≤◌, ◌<◌, List, [], ◌∷◌, ◌++◌, length, drop, get_or, refl, sym, ap, ◌∙◌, add-one, drop-cons}
use Rattle.std.proofs.lemmas.List.{drop_all}
use Rattle.memory.specs.Bytes.{comma, feed}
use Rattle.memory.specs.Print.{number_text}
use Rattle.print.specs.Rows.{column_text, columns_text}

pub column_parts : (n : ℕ) → column_text n ≡ (comma ∷ []) ++ number_text n
unfolding column_text
column_parts n = refl

-- the numbers from the place i on, and those after it
pub columns_from : (ns : List ℕ) (i : ℕ) → i < length ns → columns_text (drop i ns) ≡ column_text (get_or ns i 0) ++ columns_text (drop (i + 1) ns)
unfolding columns_text
columns_from ns i h = ap columns_text (drop-cons ns i 0 h ∙ ap (λ (k : ℕ). get_or ns i 0 ∷ drop k ns) (sym (add-one i)))

pub columns_over : (ns : List ℕ) (i : ℕ) → length ns ≤ i → columns_text (drop i ns) ≡ feed ∷ []
unfolding columns_text
columns_over ns i h = ap columns_text (drop_all i ns h)
