use Rattle.operations.proofs.Subjects.{subject}
use Rattle.operations.proofs.subject_laws.Goals as goal

pub returns : goal.returns
returns c = subject
