use Rattle.operations.proofs.Lawfuls.{lawfuls}
use Rattle.operations.proofs.lawful_results.Goals as goal

pub returns : goal.returns
returns c = lawfuls
