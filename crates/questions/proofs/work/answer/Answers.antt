-- `answer` meets its contract: the answer to what was asked by what was read. Assumes nothing.
use mathlib.Core.Path.{◌∙◌, ap}
use Rattle.questions.specs.Asked.{asked_of, work_of, question_of, answer_of}
use Rattle.questions.proofs.work.answer.Goals as goal

pub returns : goal.returns
unfolding answer_of question_of
returns c = c.worked.ensures ∙ ap work_of (c.asked.ensures ∙ ap asked_of c.read.ensures)
