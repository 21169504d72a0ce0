use Rattle.std.proofs.Common.{length, sym, ◌∙◌, rules, tests}
use Rattle.std.specs.Str.{bytes_eq}
use Rattle.std.proofs.lemmas.Iterator.{YieldsList-from_slice}
use Rattle.std.proofs.lemmas.Iterator.Adapters.{option_map_id}
use Rattle.std.proofs.lemmas.Iterator.Consumers.{YieldsList-from_copied}
use Rattle.std.proofs.lemmas.Iterator.Search.{find_from_yields_List}
use Rattle.tokens.specs.Spelling.{spelling}
use Rattle.tokens.specs.Lookup.{of_length}
use Rattle.tokens.proofs.Lookups.{reserved_is}
use Rattle.tokens.proofs.marks.reserved.Goals as goal

pub returns : goal.returns
returns c =
    let w = c.args.word.now in
    reserved_is w c.find.result (sym (option_map_id _) ∙ find_from_yields_List (λ m. bytes_eq w (spelling m)) _ _ _ c.find.ensures.ran (YieldsList-from_copied (YieldsList-from_slice (of_length (length w)) (cc))) (λ x b q k. search (rules, tests)))
