-- What the lines of the filling program's input read as, by the keys of their names.
-- Assumes nothing.
use Prim.Native.Nat.{ℕ, ◌≤◌}
use mathlib.Core.Path.{◌≡◌, refl}
use mathlib.Core.Bool.{true}
use Rattle.std.specs.Prelude.{Option}
use mathlib.Core.List.{List}
use lib.ListN.{get_or}
use Rattle.memory.specs.declared.Memory.{Memory}
use Rattle.memory.specs.Bytes.{Line, fields_of}
use Rattle.memory.specs.Rows.{allowed}
use Rattle.memory.specs.Names.{op_named, memory_named}
use Rattle.runs.specs.FillFile.{fill_allowed, Job, no_job, job_fields, job_of, job_read, parse_job, faulty, input_fields, input_read, parse_input}
use Rattle.fields.specs.Keyed.{Keyed, by_key}
use Rattle.keys.specs.Keys.{op_keyed, memory_keyed}
use Rattle.memory.proofs.ReadRows.{both_pass}
use Rattle.keys.proofs.Keys.{Bytes}
use Rattle.lines.proofs.Parse.{on_keyed, line_keyed, op_agrees, memory_agrees, allowed_fits}
use Rattle.fill_lines.specs.Answers.{input_with}

-- a size and count that the filling program takes are at most 65,536
pub fill_fits : (m : Memory) (n t : ℕ) → fill_allowed m n t ≡ true → (n ≤ 65536) × (t ≤ 65536)
unfolding fill_allowed
fill_fits m n t e = allowed_fits m n t (both_pass (allowed m n t) _ e).0

-- the answer to a value line, from the memory that is named and the numbers
unfoldable pub job_with : Option Memory → List ℕ → Job
job_with m ns = job_of m (get_or ns 0 0) (get_or ns 1 0)

module _ (q : ℕ) (line : Line) (are : Bytes line.text) where
  pub job_keyed : {found : Keyed} → found ≡ by_key (fields_of q job_fields line) → on_keyed no_job job_with memory_keyed found ≡ parse_job q line
  unfolding parse_job job_read job_with
  job_keyed is = line_keyed job_read job_with memory_named memory_keyed (λ name ns. refl) q job_fields line (memory_agrees line are) is

  pub input_keyed : {found : Keyed} → found ≡ by_key (fields_of q input_fields line) → on_keyed faulty input_with op_keyed found ≡ parse_input q line
  unfolding parse_input input_read input_with
  input_keyed is = line_keyed input_read input_with op_named op_keyed (λ name ns. refl) q input_fields line (op_agrees line are) is
