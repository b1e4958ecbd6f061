-- The search tree of a set in scratch words.
--     blank_all, blank_part    words that are all 0
--     tree_built      the tree grown in the first n words
--     prepared_tree   what a set's members are looked up in
-- Assumes nothing.
use Prim.Native.Nat.{ℕ, zero, suc, ◌*◌, ◌≤◌}
use native.Mathlib.Omega.{arith}
use mathlib.Core.Path.{◌≡◌, refl, sym, ap, subst, ◌∙◌}
use mathlib.Core.List.{List, ◌++◌}
use lib.ListN.{length, get_or, take, drop, replicate, length-append, length-replicate, get_or-replicate}
use lib.Seq.{length-take-le, take_at, get_or-take, ext_get_or}
use Rattle.memory.specs.declared.Memory.{Memory}
use Rattle.memory.specs.declared.Memory.TheVariants.{Set}
use Rattle.index.specs.Values.{values_in}
use Rattle.index.specs.Tree.{grown}
use Rattle.filler.specs.Write.{Blank, Unprepared, TreeBuilt, Prepared}
use Rattle.filler.proofs.Inputs.{values_count}

pub blank_all : (n j : ℕ) → ◌≡◌ {A = ℕ} (get_or (replicate n 0) j 0) 0
blank_all zero zero = refl
blank_all zero (suc j) = refl
blank_all (suc n) zero = refl
blank_all (suc n) (suc j) = blank_all n j

pub blank_part : (n : ℕ) (s : List ℕ) → n ≤ length s → Blank s → take n s ≡ replicate n 0
blank_part n s h b =
    let long = length-take-le n s h in
    ext_get_or 0 (take n s) (replicate n 0) (long ∙ sym (length-replicate n 0))
    (λ i low. get_or-take n s i 0 (omega arith) ∙ b i ∙ sym (get_or-replicate n i 0 0 (omega arith)))

pub tree_built : (n : ℕ) (inits s part : List ℕ) → 4 * n ≡ length inits → Unprepared n s → length part ≡ n → part ≡ grown (values_in inits) (take n s)
    → TreeBuilt n inits (part ++ drop n s)
tree_built n inits s part count u long grows = record {
  held = count;
  few = u.few;
  room = let r = u.room in omega (arith, long, length-append part (drop n s));
  is = take_at part (drop n s) n long ∙ grows ∙ ap (grown (values_in inits)) (blank_part n s u.room u.blank);
}

pub prepared_tree : (m : Memory) (n : ℕ) (inits s : List ℕ) → Prepared m n inits s → m ≡ Set
    → take n s ≡ grown (values_in inits) (replicate (length (values_in inits)) 0)
prepared_tree m n inits s h e =
    let built = subst (λ (x : Memory). Prepared x n inits s) e h in
    built.is ∙ ap (λ (k : ℕ). grown (values_in inits) (replicate k 0)) (sym (values_count inits n built.held))
