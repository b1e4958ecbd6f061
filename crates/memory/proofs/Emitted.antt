-- What the rows give to the products and hashes of a checker's state: the context that rows leave where no counter is full, the lists that one row
-- and a list of rows emit, and that the running products are the products over everything emitted.
-- Assumes nothing.
use Prim.Native.Nat.{ℕ, ◌+◌, ◌*◌, ◌%◌}
use mathlib.Core.Path.{◌≡◌, refl, sym, ◌∙◌, ap}
use mathlib.Core.Bool.{false}
use mathlib.Core.List.{List, [], ◌∷◌, ◌++◌, append-nil, append_assoc}
use lib.ListN.{length}
use Rattle.algebra.specs.Modulo.{times}
use Rattle.algebra.specs.Hash.{hash_from}
use Rattle.memory.specs.declared.Memory.{Memory}
use Rattle.memory.specs.declared.Row.{Row}
use Rattle.memory.specs.declared.Challenge.{Challenge}
use Rattle.memory.specs.declared.Context.{Context}
use Rattle.memory.specs.declared.Products.{Products}
use Rattle.memory.specs.Rows.{raised, lowered, depth_product}
use Rattle.memory.specs.Equations.{Triple, Lists, factor}
use Rattle.memory.specs.Gates.{inputs_of, mults_of}
use Rattle.memory.specs.Step.{written_by, read_by, supplied_by, looked_by, enqueued_by, dequeued_by, multiplied, multiply}

-- the context after rows
unfoldable pub context_of : ℕ → Memory → ℕ → ℕ → List Row → Context
context_of q m n t rows = record {
  memory = m;
  size = n;
  count = t;
  passed = length rows;
  pushed = raised rows;
  popped = lowered rows;
  depths = depth_product q 0 0 rows;
  inputs = inputs_of m rows;
  mults = mults_of m rows;
  answer = 0;
  line = 0;
  ended = false;
}

-- lists joined one by one, and no lists
unfoldable pub none : Lists
none = record { written = []; read = []; supplied = []; looked = []; enqueued = []; dequeued = [] }

unfoldable pub join : Lists → Lists → Lists
join k l = record {
  written = k.written ++ l.written;
  read = k.read ++ l.read;
  supplied = k.supplied ++ l.supplied;
  looked = k.looked ++ l.looked;
  enqueued = k.enqueued ++ l.enqueued;
  dequeued = k.dequeued ++ l.dequeued;
}

pub join_none : (l : Lists) → join l none ≡ l
unfolding join none
join_none l = λ i. record {
  written = append-nil l.written i;
  read = append-nil l.read i;
  supplied = append-nil l.supplied i;
  looked = append-nil l.looked i;
  enqueued = append-nil l.enqueued i;
  dequeued = append-nil l.dequeued i;
}

pub none_join : (l : Lists) → join none l ≡ l
unfolding join none
none_join l = refl

pub join_assoc : (k l m : Lists) → join (join k l) m ≡ join k (join l m)
unfolding join
join_assoc k l m = λ i. record {
  written = append_assoc k.written l.written m.written i;
  read = append_assoc k.read l.read m.read i;
  supplied = append_assoc k.supplied l.supplied m.supplied i;
  looked = append_assoc k.looked l.looked m.looked i;
  enqueued = append_assoc k.enqueued l.enqueued m.enqueued i;
  dequeued = append_assoc k.dequeued l.dequeued m.dequeued i;
}

-- what one row emits in a context
unfoldable pub emits : ℕ → Context → Row → Lists
emits q c row = record {
  written = written_by q c row c.memory row.op;
  read = read_by q c row c.memory row.op;
  supplied = supplied_by q c row;
  looked = looked_by q c row;
  enqueued = enqueued_by row;
  dequeued = dequeued_by c.memory row;
}

-- what rows emit after those that have passed
unfoldable pub emitted : ℕ → Memory → ℕ → ℕ → List Row → List Row → Lists
emitted q m n t past [] = none
emitted q m n t past (row ∷ rows) = join (emits q (context_of q m n t past) row) (emitted q m n t (past ++ row ∷ []) rows)

pub emitted_append : (q : ℕ) (m : Memory) (n t : ℕ) (past xs ys : List Row)
    → emitted q m n t past (xs ++ ys) ≡ join (emitted q m n t past xs) (emitted q m n t (past ++ xs) ys)
unfolding emitted
emitted_append q m n t past [] ys =
    ap (λ (p : List Row). emitted q m n t p ys) (sym (append-nil past)) ∙ sym (none_join _)
emitted_append q m n t past (x ∷ xs) ys =
    ap (join (emits q (context_of q m n t past) x)) (emitted_append q m n t (past ++ x ∷ []) xs ys)
    ∙ (sym (join_assoc _ _ _)
    ∙ ap (λ (p : List Row). join (emitted q m n t past (x ∷ xs)) (emitted q m n t p ys)) (append_assoc past (x ∷ []) xs))

pub emitted_snoc : (q : ℕ) (m : Memory) (n t : ℕ) (rows : List Row) (row : Row)
    → emitted q m n t [] (rows ++ row ∷ []) ≡ join (emitted q m n t [] rows) (emits q (context_of q m n t rows) row)
unfolding emitted
emitted_snoc q m n t rows row =
    emitted_append q m n t [] rows (row ∷ []) ∙ ap (join (emitted q m n t [] rows)) (join_none _)

-- the products and hashes over lists
unfoldable pub products_of : ℕ → Challenge → Lists → Products
products_of q ch l = record {
  written = multiplied q ch 1 l.written;
  read = multiplied q ch 1 l.read;
  supplied = multiplied q ch 1 l.supplied;
  looked = multiplied q ch 1 l.looked;
  enqueued = hash_from q ch.r 0 l.enqueued;
  dequeued = hash_from q ch.r 0 l.dequeued;
}

-- to multiply by more factors is to multiply by those of both lists, and so for hashes
multiplied_append : (q : ℕ) (ch : Challenge) (x : ℕ) (ts us : List Triple) → multiplied q ch (multiplied q ch x ts) us ≡ multiplied q ch x (ts ++ us)
unfolding multiplied
multiplied_append q ch x [] us = refl
multiplied_append q ch x (t ∷ ts) us = multiplied_append q ch (times q x (factor q ch t)) ts us

hash_append : (q r h : ℕ) (xs ys : List ℕ) → hash_from q r (hash_from q r h xs) ys ≡ hash_from q r h (xs ++ ys)
unfolding hash_from
hash_append q r h [] ys = refl
hash_append q r h (x ∷ xs) ys = hash_append q r ((h * r + x) % q) xs ys

-- the products after a row are those over what was emitted before it and what it emits
pub multiply_emits : (q : ℕ) (ch : Challenge) (c : Context) (row : Row) (l : Lists)
    → multiply q ch c row (products_of q ch l) ≡ products_of q ch (join l (emits q c row))
unfolding multiply products_of join emits
multiply_emits q ch c row l = λ i. record {
  written = multiplied_append q ch 1 l.written (written_by q c row c.memory row.op) i;
  read = multiplied_append q ch 1 l.read (read_by q c row c.memory row.op) i;
  supplied = multiplied_append q ch 1 l.supplied (supplied_by q c row) i;
  looked = multiplied_append q ch 1 l.looked (looked_by q c row) i;
  enqueued = hash_append q ch.r 0 l.enqueued (enqueued_by row) i;
  dequeued = hash_append q ch.r 0 l.dequeued (dequeued_by c.memory row) i;
}
