use Rattle.std.proofs.Common.{◌≡◌, ◌-◌, ◌++◌, length, replicate, sym, refl, ap, ◌∙◌, arith, length-drop, take-append-drop}
use Rattle.std.proofs.lemmas.List.{length-take}
use Rattle.tables.specs.Items.{items, spare}
use Rattle.reading.specs.declared.entry.Entry.TheVariants as entry
use Rattle.reading.proofs.Drafts.{places_apart, places_own}
use Rattle.reading.proofs.call.read.Goals as goal

pub returns-in-Ok : goal.returns-in-Ok
returns-in-Ok c =
    let f = rw c.in-Ok.is at c.build-root.ensures in
    let t = c.build-root.result.1 in
    let t' = c.blank.new.self in
    let whole = sym (take-append-drop t'.len t'.slots.now) in
    let left : length (spare t) ≡ length c.args.slots.now - length (items t) = omega (arith, length-drop t.len t.slots.now, length-take t.len t.slots.now, f.1.1.1.1.0, c.make.ensures.room) in
    record {
      short = c.if-text-gt-TEXT_MAX.false;
      large = c.if-slots-lt-TEXT_MAX.false;
      tree = f.0;
      sentence = f.1.0;
      only = f.1.1.0;
      apart = places_apart c.args.text.now f.0 f.1.0;
      own = places_own c.args.text.now f.0 f.1.0;
      same_text = refl;
      nodes = items t;
      held = f.1.1.1.0;
      few = f.1.1.1.1.1;
      entries = c.release.ensures ∙ whole ∙ ap (λ us. us ++ spare t') c.blank.ensures.items ∙ ap (λ us. items t ++ us) c.blank.ensures.spare ∙ ap (λ n. items t ++ replicate n entry.Empty) left;
    }
