-- Reading a text a byte at a time: what is still to come is a list of parts. Inner contracts cite it, and no promise to a caller does. Assumes nothing.
use Rattle.std.specs.Prelude.{ℕ, ◌+◌, ◌-◌, ◌*◌, Bool, true, false, cond, ◌&&◌, List, [], ◌∷◌, ◌++◌, Some, None, Option, ◌==◌, nat_le, nat_lt}
use Rattle.grammar.specs.Phrases.{strict, loose}
use Rattle.grammar.specs.declared.Name.{Name}
use Rattle.grammar.specs.declared.Name.TheVariants.{Fact, Enabled, Taken}
use Rattle.grammar.specs.declared.Prefix.{Prefix}
use Rattle.grammar.specs.declared.Prefix.TheVariants.{Not, Next, Finally, Globally}
use Rattle.grammar.specs.declared.Joint.{Joint}
use Rattle.grammar.specs.declared.Joint.TheVariants.{Or, And, Implies, Until}
use Rattle.grammar.specs.declared.Fault.{Fault}
use Rattle.grammar.specs.declared.Fault.TheVariants.{Byte, End, Number}

-- a phrase, a sign between two, a number, what may follow its first digit, a byte
pub data Part : Type 0 where
  phrase op : Part
  num : Name → Part
  more : Name → ℕ → Part
  lit : ℕ → Part

pub data Move : Type 0 where
  stop : Move
  to : List Part → Move

-- what a phrase can begin with
pub data Mark : Type 0 where
  mark_truth mark_pair mark_none : Mark
  mark_name : Name → Mark
  mark_prefix : Prefix → Mark

unfoldable pub mark_of : ℕ → Mark
mark_of c =
    cond (c == 84) mark_truth
    (cond (c == 112) (mark_name Fact)
    (cond (c == 101) (mark_name Enabled)
    (cond (c == 91) (mark_name Taken)
    (cond (c == 33) (mark_prefix Not)
    (cond (c == 88) (mark_prefix Next)
    (cond (c == 70) (mark_prefix Finally)
    (cond (c == 71) (mark_prefix Globally)
    (cond (c == 40) mark_pair mark_none))))))))

unfoldable pub joint_of : ℕ → Option Joint
joint_of c = cond (c == 124) (Some Or) (cond (c == 38) (Some And) (cond (c == 62) (Some Implies) (cond (c == 85) (Some Until) None)))

abbrev pub digit : ℕ → Bool
digit c = nat_le 48 c && nat_lt c 58

-- what comes behind the byte that opens a name
abbrev pub name_parts : Name → List Part
name_parts Fact = num Fact ∷ []
name_parts Enabled = num Enabled ∷ []
name_parts Taken = num Taken ∷ lit 93 ∷ []

abbrev pub begin : Mark → List Part → Move
begin mark_truth k = to k
begin (mark_name a) k = to (name_parts a ++ k)
begin (mark_prefix x) k = to (phrase ∷ k)
begin mark_pair k = to (phrase ∷ op ∷ phrase ∷ lit 41 ∷ k)
begin mark_none k = stop

abbrev pub across : Option Joint → List Part → Move
across (Some j) k = to k
across None k = stop

-- one byte more
abbrev pub move : (Name → ℕ) → List Part → ℕ → Move
move l [] c = stop
move l (phrase ∷ k) c = begin (mark_of c) k
move l (op ∷ k) c = across (joint_of c) k
move l (num a ∷ k) c = cond (c == 48) (to k) (cond (digit c) (to (more a (c - 48) ∷ k)) stop)
move l (more a d ∷ k) c = cond (digit c) (cond (nat_lt (d * 10 + (c - 48)) (l a)) (to k) stop) (move l k c)
move l (lit b ∷ k) c = cond (c == b) (to k) stop

-- nothing more has to come
abbrev pub final : List Part → Bool
final [] = true
final (phrase ∷ k) = false
final (op ∷ k) = false
final (num a ∷ k) = false
final (more a d ∷ k) = final k
final (lit b ∷ k) = false

pub data Outcome : Type 0 where
  good : Outcome
  not : Fault → Outcome

-- why byte i stopped the reading, by where it would go with any number
abbrev pub fault : Move → ℕ → Outcome
fault stop i = not (Byte i)
fault (to k) i = not (Number (i - 1))

abbrev pub on : Move → Outcome → (List Part → Outcome) → Outcome
on stop o f = o
on (to k) o f = f k

-- how the reading of the bytes from place i on comes out
abbrev pub outcome : List Part → ℕ → List ℕ → Outcome
outcome k i [] = cond (final k) good (not End)
outcome k i (c ∷ s) = on (move strict k c) (fault (move loose k c) i) (λ k'. outcome k' (i + 1) s)
