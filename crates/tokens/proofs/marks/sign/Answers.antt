use Rattle.std.proofs.Common.{◌≡◌, sym, ◌∙◌, get_or, rules, tests}
use Rattle.std.proofs.lemmas.Option.{get_or_from_slice_get}
use Rattle.std.proofs.lemmas.Iterator.{YieldsList-from_slice}
use Rattle.std.proofs.lemmas.Iterator.Adapters.{option_map_id}
use Rattle.std.proofs.lemmas.Iterator.Consumers.{YieldsList-from_copied}
use Rattle.std.proofs.lemmas.Iterator.Search.{find_from_yields_List}
use Rattle.tokens.specs.Lookup.{of_first}
use Rattle.tokens.proofs.Lookups.{stands, sign_is}
use Rattle.tokens.proofs.marks.sign.Goals as goal

pub returns : goal.returns
returns c =
    let bs = c.args.text.now in
    let b : get_or bs 0 0 ≡ c.in_ok-first.field-0.now = get_or_from_slice_get bs 0 _ 0 (sym c.in_ok-first.ensures.value) in
    sign_is bs c.find.result (sym (option_map_id _) ∙ find_from_yields_List (stands bs) _ _ _ c.find.ensures.ran (YieldsList-from_copied (YieldsList-from_slice (of_first (get_or bs 0 0)) (cc))) (λ x b q k. search (rules, tests)))
