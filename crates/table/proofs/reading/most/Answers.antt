use Rattle.std.proofs.Common.{◌≡◌, ℕ, List, [], ◌∷◌, max, unwrap_or, fold, ap, ◌∙◌, refl, sym, arith}
use Rattle.std.specs.List.{reduce}
use Rattle.std.proofs.lemmas.Iterator.Adapters.{option_map_id}
use Rattle.std.proofs.lemmas.Iterator.{YieldsList-from_slice}
use Rattle.std.proofs.lemmas.Iterator.Consumers.{max_from_yields_List, YieldsList-from_copied, YieldsList-at}
use Rattle.table.specs.Words.{largest}
use Rattle.table.proofs.reading.most.Goals as goal

largest_is : (xs : List ℕ) → unwrap_or (reduce max xs) 0 ≡ largest xs
largest_is [] = refl
largest_is (x ∷ xs) = ap (λ m. fold max m xs) (omega arith)

pub returns : goal.returns
returns c =
    let top = max_from_yields_List _ c.max.result c.max.ensures.ran (YieldsList-from_copied (YieldsList-at c.copied.ensures.source (YieldsList-from_slice c.args.words.now cc))) in
    c.unwrap_or.ensures ∙ ap (λ o. unwrap_or o 0) (sym (option_map_id c.max.result) ∙ top) ∙ largest_is c.args.words.now
