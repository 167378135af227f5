-- Drafts: what is kept, and one addition behind another. Assumes nothing.
use Rattle.std.proofs.Common.{◌≡◌, ℕ, ◌<◌, ◌≤◌, List, [], None, Some, ◌++◌, length, take, sym, ◌∙◌, subst, append_assoc, append-nil, arith, length-take, get_or-take, ext_get_or}
use Rattle.std.proofs.lemmas.Option.{MatchOption-at_some, MatchOption-at_none}
use Rattle.formula.specs.declared.entry.Entry.{Entry}
use Rattle.formula.specs.declared.entry.Entry.TheVariants.{True}
use Rattle.draft.specs.declared.draft.Draft.{Draft}
use Rattle.draft.specs.Drafts.{Drafted, Adds}

-- how many entries there are, where that is counted
pub known : {d : Draft} {es : List Entry} {n : ℕ} → Drafted d es → d.count ≡ Some n → (n ≡ length es) × (n ≤ 48)
known {d} d_es is = MatchOption-at_some _ _ _ is d_es.counted

pub more : {d : Draft} {es : List Entry} → Drafted d es → d.count ≡ None → 48 < length es
more d_es is = MatchOption-at_none _ _ is d_es.counted

-- what is kept of at most 48 entries is all
pub kept_all : (d : Draft) (n : ℕ) (es : List Entry) → Drafted d es → d.count ≡ Some n → take n d.entries ≡ es
kept_all d n es was is =
    let here = known was is in
    let long : length (take n d.entries) ≡ length es = simp length-take (omega (arith, d.full, here.0, here.1)) in
    ext_get_or True (take n d.entries) es long (λ i lt. let b : i < n = omega (arith, long, here.0) in get_or-take n d.entries i True b ∙ was.each i (omega (arith, here.1)) (omega (arith, here.0)))

pub adds : {a b c : Draft} {new more : List Entry} → Adds a b new → Adds b c more → Adds a c (new ++ more)
adds {a} {b} {c} {new} {more} h j es d = subst (Drafted c) (append_assoc es new more) (j (es ++ new) (h es d))

pub adds_none : {a : Draft} → Adds a a []
adds_none {a} es d = subst (Drafted a) (sym (append-nil es)) d

pub renamed : {a b : Draft} {new more : List Entry} → new ≡ more → Adds a b new → Adds a b more
renamed {a} {b} eq h = subst (Adds a b) eq h
