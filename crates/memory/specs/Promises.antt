-- Every statement of this crate, as the fields of one record: a proof of it is a proof of each. (Promises: promises)
-- Assumes nothing.
use Rattle.memory.specs.Statements.{SameContent, ContentSame, FoldIsFile, RunIsSteps, LentIsSteps, RunIsFile, FaultByForm, FixedState, EndedState, RowAnswered, RefusalStays, AcceptsExactlyWhen, FileAccepted, MalformedAnswered, WellFormedAnswered, GatesByFormula, FactorsCounted, ChoicesCounted, HashesCounted, DepthsCounted, MultsCounted, ReportShort, StreamIsFile}
use Rattle.memory.specs.Cases.{CasesHold, CountedChallenge, RamProducts}

pub record Promises : Type 0 where
  pub same_content : SameContent
  pub content_same : ContentSame
  pub fold : FoldIsFile
  pub run_is_steps : RunIsSteps
  pub lent_is_steps : LentIsSteps
  pub run : RunIsFile
  pub sight : FaultByForm
  pub fixed : FixedState
  pub ended : EndedState
  pub answered : RowAnswered
  pub refusal : RefusalStays
  pub accepts : AcceptsExactlyWhen
  pub file : FileAccepted
  pub malformed : MalformedAnswered
  pub well_formed : WellFormedAnswered
  pub gates : GatesByFormula
  pub factors : FactorsCounted
  pub choices : ChoicesCounted
  pub hashes : HashesCounted
  pub depths : DepthsCounted
  pub mults : MultsCounted
  pub report : ReportShort
  pub stream_is_file : StreamIsFile
  pub cases : CasesHold
  pub counted : CountedChallenge
  pub products : RamProducts
