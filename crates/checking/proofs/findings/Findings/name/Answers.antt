use Rattle.std.proofs.Common.{map, rules, arith}
use Rattle.std.proofs.lemmas.Bool.Decides.{nat_tests}
use Rattle.std.proofs.lemmas.Grind.{common_steps}
use Rattle.reading.specs.Entries.{spelled}
use Rattle.checking.proofs.Noted.{noted_before, noted_already, noted, noted_beyond}
use Rattle.checking.proofs.findings.Findings.name.Goals as goal
use Rattle.checking.proofs.findings.Findings.name.Goals.{then-among-via-then-among, then-among-via-else-among+then-among-2}

pub returns-then-among : goal.returns-then-among
returns-then-among c =
    let text = c.args.text.now in
    let ns = map (spelled text) c.args.sight.now in
    elim c.then-among.branch [
      | then-among-via-then-among w ↦ noted_before text ns c.args.name c.args.self.now (search rules)
      | then-among-via-else-among+then-among-2 w ↦ noted_already text ns c.args.name c.args.self.now (search rules) (search rules)
    ]

pub returns-then-is_err : goal.returns-then-is_err
returns-then-is_err c =
    let text = c.args.text.now in
    let ns = map (spelled text) c.args.sight.now in
    noted_beyond text ns c.args.name c.args.self.now c.try_push.new.self (search rules) (search rules) c.or-self.result c.or-self.ensures (grind (arith, nat_tests, common_steps)) (grind (arith, common_steps))

pub returns-else-is_err : goal.returns-else-is_err
returns-else-is_err c =
    let text = c.args.text.now in
    let ns = map (spelled text) c.args.sight.now in
    noted text ns c.args.name c.args.self.now c.try_push.new.self (search rules) (search rules) (grind (arith, nat_tests, common_steps)) (grind (arith, common_steps))
