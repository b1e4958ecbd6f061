-- `decimal::position_in` meets its contract.
-- Assumes nothing.
use Rattle.std.proofs.Common.{rules, tests, ◌≡◌, ◌≤◌, ◌==◌, ◌∙◌, ap, ℕ, Bool, Option, Some, None, cond, ltb, length}
use Rattle.std.specs.List.{position_or_len}
use Rattle.std.specs.Option.{unwrap_or}
use Rattle.std.proofs.lemmas.List.Sums.{prefix_len-le-length}
use Rattle.std.proofs.lemmas.Iterator.{YieldsList-from_slice}
use Rattle.std.proofs.lemmas.Iterator.Search.{position_from_yields_List}
use Rattle.decimal.proofs.Positions.{place_or_length}
use Rattle.decimal.proofs.position_in.Goals as goal

pub returns : goal.returns
returns c =
    let text = c.args.text.now in
    let test : ℕ → Bool = λ b. b == c.args.byte in
    let p = position_or_len test text in
    let found : c.position-found.result ≡ cond (ltb p (length text)) (Some p) None =
    position_from_yields_List test _ _ c.position-found.result c.position-found.ensures.ran (YieldsList-from_slice _ c.iter.ensures.rest) (λ x b q k. search (rules, tests)) in
    let inside : p ≤ length text = prefix_len-le-length _ text in
    let place = c.unwrap_or.ensures ∙ ap (λ (o : Option ℕ). unwrap_or o (length text)) found ∙ place_or_length p (length text) inside in
    record { place = place; within = rw place inside }
