use Rattle.std.proofs.Common.{◌≡◌, map, drop, sym, ap, ◌∙◌}
use Rattle.std.proofs.lemmas.List.{drop-map}
use Rattle.reading.specs.Entries.{spelled}
use Rattle.checking.specs.Sightings.{bound}
use Rattle.checking.specs.Walk.{bind, see_bound}
use Rattle.checking.specs.Walked.{text_of, in_sight, noted}
use Rattle.checking.proofs.walk.Walk.pattern_name.Goals as goal

pub returns : goal.returns
returns c =
    let w = c.args.self.now in
    let x = c.args.name in
    let n = spelled (text_of w.src) x in
    let names : map (spelled (text_of w.src)) c.since-earlier.result.now ≡ drop c.args.from (in_sight w) = ap (map (spelled (text_of w.src))) (c.since-earlier.ensures ∙ ap (drop c.args.from) c.deref.ensures.0) ∙ sym (drop-map (spelled (text_of w.src)) c.args.from w.scope.items) in
    record {
      source = c.bind.ensures.source;
      grew = c.bind.ensures.grew;
      found = c.bind.ensures.found ∙ ap (λ s. record { names = bind (in_sight w) n; seen = s }) (c.pattern_name.ensures ∙ ap (λ ns. see_bound (bound x.place n ns) (noted w)) names);
    }
