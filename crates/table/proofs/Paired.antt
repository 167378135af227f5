-- Arcs from two parallel arrays. Assumes nothing.
use Rattle.std.proofs.Common.{◌≡◌, ℕ, zero, suc, ◌<◌, List, [], ◌∷◌, length, get_or, take, drop, sym, refl, ap, ◌∙◌, arith}
use Rattle.std.specs.List.{zip}
use Rattle.std.proofs.lemmas.List.{length-map, get_or-map}
use Rattle.std.proofs.lemmas.Slice.Zip.{length-zip, get_or-zip}
use Rattle.meaning.specs.declared.Arc.{Arc}
use Rattle.meaning.specs.Systems.{no_arc}
use Rattle.table.specs.Words.{paired}

abbrev pub arc : ℕ → ℕ → Arc
arc e t = record { event = e; target = t }

pub length_paired : (es ts : List ℕ) → length ts ≡ length es → length (paired es ts) ≡ length es
length_paired es ts long = omega (arith, length-map (zip es ts) (λ p. arc p.0 p.1), length-zip es ts)

pub get_d_paired : (es ts : List ℕ) (k : ℕ) (d : Arc) → length ts ≡ length es → k < length es → get_or (paired es ts) k d ≡ arc (get_or es k 0) (get_or ts k 0)
get_d_paired es ts k d long lt =
    get_or-map (λ p. arc p.0 p.1) (zip es ts) k (0, 0) d (omega (arith, length-zip es ts))
    ∙ ap (λ p. arc p.0 p.1) (get_or-zip es ts k (0, 0) lt (omega arith))

-- two arcs are the same where their events and their targets are
module _ (es ts : List ℕ) (long : length ts ≡ length es) (j k : ℕ) (first : j < length es) (second : k < length es) where
  pub same_arcs : get_or es j 0 ≡ get_or es k 0 → get_or ts j 0 ≡ get_or ts k 0 → get_or (paired es ts) j no_arc ≡ get_or (paired es ts) k no_arc
  same_arcs e t = get_d_paired es ts j no_arc long first ∙ (λ i. arc (e i) (t i)) ∙ sym (get_d_paired es ts k no_arc long second)

  pub same_parts : get_or (paired es ts) j no_arc ≡ get_or (paired es ts) k no_arc → (get_or es j 0 ≡ get_or es k 0) × (get_or ts j 0 ≡ get_or ts k 0)
  same_parts same =
      let e = sym (get_d_paired es ts j no_arc long first) ∙ same ∙ get_d_paired es ts k no_arc long second in
      (ap (λ (x : Arc). x.event) e, ap (λ (x : Arc). x.target) e)

-- a part of the arcs is that of the arrays
pub paired_take : (n : ℕ) (es ts : List ℕ) → paired (take n es) (take n ts) ≡ take n (paired es ts)
paired_take zero es ts = refl
paired_take (suc n) [] ts = refl
paired_take (suc n) (e ∷ es) [] = refl
paired_take (suc n) (e ∷ es) (t ∷ ts) = ap (λ l. arc e t ∷ l) (paired_take n es ts)

pub paired_drop : (n : ℕ) (es ts : List ℕ) → length ts ≡ length es → paired (drop n es) (drop n ts) ≡ drop n (paired es ts)
paired_drop zero es ts long = refl
paired_drop (suc n) [] ts long = refl
paired_drop (suc n) (e ∷ es) [] long = absurd (omega arith)
paired_drop (suc n) (e ∷ es) (t ∷ ts) long = paired_drop n es ts (omega arith)
