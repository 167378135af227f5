-- Inner: tests of bits that say which atoms are possible, and which follow one another. `Tests` and `FreeEdges` tie them to Free.
use Rattle.std.specs.Prelude.{ℕ, zero, suc, Bool, true, false, cond, not, ◌&&◌, ◌||◌, ◌==◌, nat_eq, nat_lt}
use Rattle.formula.specs.Atoms.{Atom, value}
use Rattle.formula.specs.Ltl.{Ltl, top, fact, enabled, taken, neg, or, next, until}
use Rattle.seconds.specs.Letters.{Kind, of_fact, of_enabled, of_taken}

-- some entry of this kind and number has a bit that passes
abbrev pub says : Kind → (f : Ltl) → Atom f → ℕ → (Bool → Bool) → Bool
says k top a n q = false
says of_fact (fact p) a n q = p == n && q a
says of_enabled (fact p) a n q = false
says of_taken (fact p) a n q = false
says of_fact (enabled p) a n q = false
says of_enabled (enabled p) a n q = p == n && q a
says of_taken (enabled p) a n q = false
says of_fact (taken p) a n q = false
says of_enabled (taken p) a n q = false
says of_taken (taken p) a n q = p == n && q a
says k (neg f) a n q = says k f a n q
says k (or f g) a n q = says k f a.0 n q || says k g a.1 n q
says k (next f) a n q = says k f a.1 n q
says k (until f g) a n q = says k f a.1 n q || says k g a.2 n q

-- some entry of this kind and number has the bit 1
abbrev pub says_one : Kind → (f : Ltl) → Atom f → ℕ → Bool
says_one k f a n = says k f a n (λ x. x)

-- some entry of this kind and number has the bit 0
abbrev pub says_zero : Kind → (f : Ltl) → Atom f → ℕ → Bool
says_zero k f a n = says k f a n not

-- q of every entry of this kind that has the bit 1
abbrev pub every : Kind → (f : Ltl) → Atom f → (ℕ → Bool) → Bool
every k top a q = true
every of_fact (fact p) a q = not a || q p
every of_enabled (fact p) a q = true
every of_taken (fact p) a q = true
every of_fact (enabled p) a q = true
every of_enabled (enabled p) a q = not a || q p
every of_taken (enabled p) a q = true
every of_fact (taken p) a q = true
every of_enabled (taken p) a q = true
every of_taken (taken p) a q = not a || q p
every k (neg f) a q = every k f a q
every k (or f g) a q = every k f a.0 q && every k g a.1 q
every k (next f) a q = every k f a.1 q
every k (until f g) a q = every k f a.1 q && every k g a.2 q

-- equal entries have equal bits, and what has the bit 1 is below `limit`
abbrev pub clear : Kind → ℕ → (f : Ltl) → Atom f → Bool
clear k limit f a = every k f a (λ n. nat_lt n limit && not (says_zero k f a n))

-- no bit denies that t is enabled and taken, and no other event is taken
abbrev pub can_take : (f : Ltl) → ℕ → Atom f → Bool
can_take f t a = not (says_zero of_enabled f a t) && (every of_taken f a (nat_eq t) && not (says_zero of_taken f a t))

-- t, one of E events, can be taken
abbrev pub may_move : ℕ → (f : Ltl) → ℕ → Atom f → Bool
may_move E f t a = clear of_fact 32 f a && (clear of_enabled E f a && (nat_lt t E && can_take f t a))

-- some number below n passes
abbrev pub some_below : ℕ → (ℕ → Bool) → Bool
some_below zero q = false
some_below (suc n) q = q n || some_below n q

-- some event can be taken
abbrev pub may_move_on : ℕ → (f : Ltl) → Atom f → Bool
may_move_on E f a = some_below E (λ t. may_move E f t a)

-- no arc is taken
abbrev pub stands : (f : Ltl) → Atom f → Bool
stands top a = true
stands (fact p) a = true
stands (enabled t) a = true
stands (taken t) a = not a
stands (neg f) a = stands f a
stands (or f g) a = stands f a.0 && stands g a.1
stands (next f) a = not a.0 && stands f a.1
stands (until f g) a = not a.0 && (stands f a.1 && stands g a.2)

-- the path can end
abbrev pub may_end : (f : Ltl) → Atom f → Bool
may_end f a = clear of_fact 32 f a && (every of_enabled f a (λ _. false) && stands f a)

-- two bits are equal
abbrev pub same : Bool → Bool → Bool
same x y = cond x y (not y)

-- the X and U bits of a are those that b after it gives
abbrev pub steps : (f : Ltl) → Atom f → Atom f → Bool
steps top a b = true
steps (fact p) a b = true
steps (enabled t) a b = true
steps (taken t) a b = true
steps (neg f) a b = steps f a b
steps (or f g) a b = steps f a.0 b.0 && steps g a.1 b.1
steps (next f) a b = same a.0 (value f b.1) && steps f a.1 b.1
steps (until f g) a b = same a.0 (value (until f g) b) && (steps f a.1 b.1 && steps g a.2 b.2)
