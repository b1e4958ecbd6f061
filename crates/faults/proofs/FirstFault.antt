-- The scan finds the fault that the definition has.
--     scanned_fault     the first fault of the operations depends on the content by its length alone, of a set by which values are in it
--     first_fault_lem       the first fault of all rows, as the scan of the init rows and the scan of the operations find it
--     scan_finds_first  the same where a set's elements are looked up in its search tree
-- Assumes nothing.
use Prim.Native.Nat.{ℕ, suc, ◌+◌, ◌-◌, ◌≤◌}
use native.Mathlib.Omega.{arith}
use mathlib.Core.Bool.{Bool, true, false, cond}
use mathlib.Core.Path.{◌≡◌, refl, sym, ap, ◌∙◌, subst}
use mathlib.Core.List.{List, [], ◌∷◌}
use lib.Dec.{eqb, ltb, leb-suc-zero}
use lib.ListN.{length, replicate, length-set, length-append, length-drop}
use borrow.Author.Tests.{eqb-true, leb-true, lt-ltb}
use Rattle.memory.specs.declared.Memory.{Memory}
use Rattle.memory.specs.declared.Memory.TheVariants.{Ram, Rom, Set, Stack, Queue}
use Rattle.memory.specs.declared.Phase.TheVariants.{Operating}
use Rattle.memory.specs.Names.{op_code, is_op}
use Rattle.memory.specs.Rows.{ops_due, sized, limit}
use Rattle.runs.specs.Plain.{store, load, push, skipped_push, pop, skipped_pop, enqueue, skipped_enqueue, dequeue, skipped_dequeue, start, after, among, front, holds, operation_of}
use Rattle.runs.specs.Honest.{Input, bare, filled_row, impossible, input_operation}
use Rattle.runs.specs.Filler.{inputs_in, input_fault, operation_fault, operations_fault, rows_fault, Placed, placed}
use Rattle.index.specs.Values.{values_in, first_at}
use Rattle.index.specs.Tree.{found, grown}
use Rattle.index.proofs.Places.{among_first}
use Rattle.index.proofs.Search.{search_finds_first}
use Rattle.faults.specs.Scan.{refusal, leveled, fault_at, scanned, init_fault, inits_scanned, in_tree, operations_scanned, first_of}
use Rattle.faults.specs.Statements.{ScanFindsFirst}
use Rattle.faults.proofs.Inputs.{values_each}
use Rattle.faults.proofs.Codes.{init_any}

-- what a scan knows of the content: of a set, which values are in it
abbrev Known : Memory → (ℕ → Bool) → List ℕ → Type 0
Known Ram member content = Unit {0}
Known Rom member content = Unit {0}
Known Set member content = (v : ℕ) → among v content ≡ member v
Known Stack member content = Unit {0}
Known Queue member content = Unit {0}

holds_length : (content : List ℕ) → holds content ≡ ltb 0 (length content)
unfolding holds
holds_length [] = sym (leb-suc-zero 0)
holds_length (x ∷ content) = sym (lt-ltb 0 (suc (length content)) (omega arith))

front_length : (content : List ℕ) → length (front content) ≡ length content - 1
unfolding front
front_length [] = refl
front_length (x ∷ []) = refl
front_length (x ∷ y ∷ content) = let ih = front_length (y ∷ content) in omega arith

-- 11, 12, 13 by the length of the content
refused : (m : Memory) (member : ℕ → Bool) (content : List ℕ) (i : Input) → Known m member content
    → impossible content (input_operation m i) ≡ refusal m member (length content) (op_code i.op) i.guard i.addr i.value
unfolding impossible input_operation operation_of bare filled_row refusal is_op op_code
refused Ram member content i known = go (eqb i.guard 1)
  where
    go : (b : Bool) → impossible content (cond b (store i.addr i.value) (load i.addr i.value 0)) ≡ cond (ltb i.addr (length content)) 0 11
    go true = refl
    go false = refl
refused Rom member content i known = refl
refused Set member content i known = ap (λ (b : Bool). cond b 0 13) (known i.value)
refused Stack member content i known = go (eqb (op_code i.op) 4) (eqb i.guard 1)
  where
    go : (b g : Bool) → impossible content (cond b (cond g (push i.value) (skipped_push i.value)) (cond g (pop 0) skipped_pop)) ≡ cond b 0 (cond g (cond (ltb 0 (length content)) 0 12) 0)
    go true true = refl
    go true false = refl
    go false true = ap (λ (b : Bool). cond b 0 12) (holds_length content)
    go false false = refl
refused Queue member content i known = go (eqb (op_code i.op) 6) (eqb i.guard 1)
  where
    go : (b g : Bool) → impossible content (cond b (cond g (enqueue i.value) (skipped_enqueue i.value)) (cond g (dequeue 0) skipped_dequeue)) ≡ cond b 0 (cond g (cond (ltb 0 (length content)) 0 12) 0)
    go true true = refl
    go true false = refl
    go false true = ap (λ (b : Bool). cond b 0 12) (holds_length content)
    go false false = refl

-- the length of the content after an operation
length_after : (m : Memory) (content : List ℕ) (i : Input) → length (after content (input_operation m i)) ≡ leveled m (length content) (op_code i.op) i.guard
unfolding after input_operation operation_of bare filled_row leveled is_op op_code
length_after Ram content i = go (eqb i.guard 1)
  where
    go : (b : Bool) → length (after content (cond b (store i.addr i.value) (load i.addr i.value 0))) ≡ length content
    go true = length-set content i.addr i.value
    go false = refl
length_after Rom content i = refl
length_after Set content i = refl
length_after Stack content i = go (eqb (op_code i.op) 4) (eqb i.guard 1)
  where
    go : (b g : Bool) → length (after content (cond b (cond g (push i.value) (skipped_push i.value)) (cond g (pop 0) skipped_pop))) ≡ cond g (cond b (length content + 1) (length content - 1)) (length content)
    go true true = length-append content (i.value ∷ [])
    go true false = refl
    go false true = front_length content
    go false false = refl
length_after Queue content i = go (eqb (op_code i.op) 6) (eqb i.guard 1)
  where
    go : (b g : Bool) → length (after content (cond b (cond g (enqueue i.value) (skipped_enqueue i.value)) (cond g (dequeue 0) skipped_dequeue))) ≡ cond g (cond b (length content + 1) (length content - 1)) (length content)
    go true true = length-append content (i.value ∷ [])
    go true false = refl
    go false true = length-drop 1 content
    go false false = refl

-- a set stays as it is
known_after : (m : Memory) (member : ℕ → Bool) (content : List ℕ) (i : Input) → Known m member content → Known m member (after content (input_operation m i))
unfolding after input_operation operation_of
known_after Ram member content i known = tt
known_after Rom member content i known = tt
known_after Set member content i known = known
known_after Stack member content i known = tt
known_after Queue member content i known = tt

fault_is : (q : ℕ) (m : Memory) (member : ℕ → Bool) (content : List ℕ) (i : Input) → Known m member content → operation_fault q m content i ≡ fault_at q m member (length content) i
unfolding operation_fault fault_at
fault_is q m member content i known =
    ap (λ (r : ℕ). cond (eqb (input_fault q m (ops_due m Operating) i) 0) r (input_fault q m (ops_due m Operating) i)) (refused m member content i known)

scanned_fault : (q : ℕ) (m : Memory) (member : ℕ → Bool) (content : List ℕ) (k : ℕ) (is : List Input) → Known m member content
    → operations_fault q m content k is ≡ scanned q m member (length content) k is
unfolding operations_fault scanned
scanned_fault q m member content k [] known = refl
scanned_fault q m member content k (i ∷ is) known =
    let rest : operations_fault q m (after content (input_operation m i)) (suc k) is ≡ scanned q m member (leveled m (length content) (op_code i.op) i.guard) (suc k) is =
    scanned_fault q m member (after content (input_operation m i)) (suc k) is (known_after m member content i known)
    ∙ ap (λ (l : ℕ). scanned q m member l (suc k) is) (length_after m content i) in
    λ x. cond (eqb (fault_is q m member content i known x) 0) (rest x) (placed (fault_is q m member content i known x) k)

-- the init rows first
rows_fault_lem : (q : ℕ) (m : Memory) (values : List ℕ) (k : ℕ) (is ops : List Input)
    → rows_fault q m values k is ops ≡ cond (eqb (inits_scanned q k is).number 0) (operations_fault q m (start m values) (k + length is) ops) (inits_scanned q k is)
unfolding rows_fault inits_scanned placed
rows_fault_lem q m values k [] ops = ap (λ (j : ℕ). operations_fault q m (start m values) j ops) here
  where
    here : k ≡ k + 0
    here = omega arith
rows_fault_lem q m values k (i ∷ is) ops =
    let ih = rows_fault_lem q m values (suc k) is ops ∙ ap (λ (j : ℕ). cond (eqb (inits_scanned q (suc k) is).number 0) (operations_fault q m (start m values) j ops) (inits_scanned q (suc k) is)) (later k (length is)) in
    (λ x. cond (eqb (init_any q m i x) 0) (ih x) (placed (init_any q m i x) k)) ∙ go (init_fault q i) (eqb (init_fault q i) 0) refl
  where
    later : (j n : ℕ) → suc j + n ≡ j + suc n
    later j n = omega arith

    go : (f : ℕ) (b : Bool) → eqb f 0 ≡ b
        → cond b (cond (eqb (inits_scanned q (suc k) is).number 0) (operations_fault q m (start m values) (k + suc (length is)) ops) (inits_scanned q (suc k) is)) (placed f k)
        ≡ cond (eqb (cond b (inits_scanned q (suc k) is) (placed f k)).number 0) (operations_fault q m (start m values) (k + suc (length is)) ops) (cond b (inits_scanned q (suc k) is) (placed f k))
    go f true e = refl
    go f false e = sym (ap (λ (b : Bool). cond b (operations_fault q m (start m values) (k + suc (length is)) ops) (placed f k)) e)

-- how many cells there are before the first operation, or the depth
start_length : (m : Memory) (values : List ℕ) (n : ℕ) → length values ≡ n → sized m n ≡ true → length (start m values) ≡ n
unfolding start sized
start_length Ram values n e a = e
start_length Rom values n e a = e
start_length Set values n e a = e
start_length Stack values n e a = sym (eqb-true n 0 a)
start_length Queue values n e a = sym (eqb-true n 0 a)

known_start : (m : Memory) (member : ℕ → Bool) (values : List ℕ) → (m ≡ Set → (v : ℕ) → among v values ≡ member v) → Known m member (start m values)
unfolding start
known_start Ram member values tested = tt
known_start Rom member values tested = tt
known_start Set member values tested = tested refl
known_start Stack member values tested = tt
known_start Queue member values tested = tt

pub first_fault_lem : (q : ℕ) (m : Memory) (member : ℕ → Bool) (values : List ℕ) (is ops : List Input) (n : ℕ) → length values ≡ n → length is ≡ n → sized m n ≡ true
    → (m ≡ Set → (v : ℕ) → among v values ≡ member v)
    → rows_fault q m values 1 is ops ≡ cond (eqb (inits_scanned q 1 is).number 0) (scanned q m member n (n + 1) ops) (inits_scanned q 1 is)
first_fault_lem q m member values is ops n many count allowed tested =
    let place : 1 + length is ≡ n + 1 = omega arith in
    rows_fault_lem q m values 1 is ops
    ∙ ap (λ (r : Placed). cond (eqb (inits_scanned q 1 is).number 0) r (inits_scanned q 1 is))
    (scanned_fault q m member (start m values) (1 + length is) ops (known_start m member values tested)
    ∙ (λ x. scanned q m member (start_length m values n many allowed x) (place x) ops))

-- the tree that is grown over a set's elements tells which values are in it
tree_tells : (m : Memory) (inits links : List ℕ) → sized m (length (inputs_in inits)) ≡ true
    → (m ≡ Set → links ≡ grown (values_in inits) (replicate (length (values_in inits)) 0)) → m ≡ Set
    → (v : ℕ) → among v (values_in inits) ≡ in_tree (values_in inits) links v
unfolding sized
tree_tells m inits links allowed linked e v =
    let few : length (inputs_in inits) ≤ limit = leb-true _ limit (subst (λ (x : Memory). sized x (length (inputs_in inits)) ≡ true) e allowed) in
    let finds : found v (values_in inits) links ≡ first_at v (values_in inits) = ap (found v (values_in inits)) (linked e) ∙ search_finds_first v (values_in inits) (omega (arith, values_each inits)) in
    among_first v (values_in inits) ∙ ap (λ (j : ℕ). ltb j (length (values_in inits))) (sym finds)

pub scan_finds_first : ScanFindsFirst
unfolding first_of operations_scanned
scan_finds_first q m inits links ops allowed linked =
    sym
    (first_fault_lem q m (in_tree (values_in inits) links) (values_in inits) (inputs_in inits) (inputs_in ops) (length (inputs_in inits)) (values_each inits) refl allowed
    (tree_tells m inits links allowed linked))
