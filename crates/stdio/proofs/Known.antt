-- What reads and writes answer, and what they do to known bytes, in plain equations.
-- Assumes nothing.
use Rattle.std.proofs.Common.{◌∙◌}
use Rattle.stdio.specs.Statements.{ReadAnswers, WriteAnswers, KnownRead, KnownWrite}

pub read_answers : ReadAnswers
read_answers kept before after = (
  (λ r h. (h.size, h.front)),
  (λ end h. h.answer),
  (λ h. h.answer),
  (λ h. h.answer),
  (λ e h. h.answer),
  (λ h. h.answer),
  (λ h. h.answer),
  (λ e h. h.answer),
)

pub write_answers : WriteAnswers
write_answers size n = ((λ h. h), (λ e h. h), (λ h. h), (λ h. h), (λ e h. h), (λ h. h))

pub known_read : KnownRead
known_read kept old new after = ((λ end h. h), (λ h. (h.0 ∙ h.1, h.1)), (λ e h. h))

pub known_write : KnownWrite
known_write n old new text = ((λ h. h), (λ h. h), (λ e h. h))
