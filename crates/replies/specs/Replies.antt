-- What the console replies to a line, and what it keeps. Relies on what is printed, script's lines, and what formulas and plants are granted or refused by.
use Rattle.std.specs.Prelude.{◌≡◌, ℕ, List, [], ◌∷◌, ◌++◌, length, Some, None, codes, decimal, Option, Result, Ok, Err}
use Rattle.std.specs.Option.{option_map}
use Rattle.refusal.specs.Rows.{First}
use Rattle.formula.specs.declared.entry.Entry.{Entry}
use Rattle.formula.specs.View.{entries_of}
use Rattle.formula.specs.Words.{Granted as WordsGranted, Refused as WordsRefused}
use Rattle.grammar.specs.Texts.{Granted as TextGranted, Refused as TextRefused}
use Rattle.plant.specs.Model.{Model, initial_at, arc_at}
use Rattle.plant.specs.declared.Failure.{Failure}
use Rattle.plant.specs.declared.Failure.TheVariants.{Refused as FailedBy, OutOfMemory}
use Rattle.table.specs.Granted.{Granted as TableGranted}
use Rattle.table.specs.Refused.{rows as table_rows}
use Rattle.rule.specs.Words.{rows as rule_rows}
use Rattle.rule.specs.Read.{Granted as RuleGranted}
use Rattle.kinds.specs.Kinds.{any_model}
use Rattle.kinds.specs.declared.AnyPlant.{AnyPlant}
use Rattle.printing.specs.Printed.{accepted_line, table_line, asked_line}
use Rattle.refusal.specs.Printed.{refused_line}
use Rattle.refusal.specs.declared.Refusal.{Refusal}
use Rattle.meaning.specs.Printed.{arc_line}
use Rattle.script.specs.Says.{Meaning, list, text, alone, one, arc, Says, Skipped}
use Rattle.script.specs.Words.{Cut}
use Rattle.script.specs.declared.calls.Word.{Word}
use Rattle.script.specs.declared.calls.ListWord.TheVariants.{Formula, Table, Rule}
use Rattle.script.specs.declared.calls.AloneWord.TheVariants.{Ask, Help}
use Rattle.script.specs.declared.calls.OneWord.TheVariants.{Initial, Facts, Arcs}
use Rattle.replies.specs.declared.state.Console.{Console}

-- what the calls so far have left: the entries of the last formula, and what the last plant stands for
pub record State : Type 0 where
  pub formula : Option (List Entry)
  pub plant : Option Model

abbrev pub state_of : Console → State
state_of k = record { formula = option_map entries_of k.formula; plant = option_map any_model k.plant }

-- the same but for the formula, or but for the plant
abbrev pub with_formula : State → List Entry → State
with_formula s es = record { formula = Some es; plant = s.plant }

abbrev pub with_plant : State → Model → State
with_plant s m = record { formula = s.formula; plant = Some m }

-- something is made and kept, or refused, and then all is as before
pub data Makes {X : Type 0} (Granted : X → Type 0) (Refused : Refusal → Type 0) (line : X → List ℕ) (put : State → X → State) (before : State) (answer : List ℕ) (after : State) : Type 0 where
  makes : (x : X) → Granted x → answer ≡ line x → after ≡ put before x → Makes Granted Refused line put before answer after
  refuses : (r : Refusal) → Refused r → answer ≡ refused_line r → after ≡ before → Makes Granted Refused line put before answer after

-- what is printed where no plant was made
abbrev pub FailedLine : Failure → List ℕ → Type 0
FailedLine (FailedBy r) answer = answer ≡ refused_line r
FailedLine OutOfMemory answer = ⊥

-- a plant is kept, or what was asked is refused and all is as before; for want of memory nothing is answered
abbrev pub Made : Result AnyPlant Failure → State → List ℕ → State → Type 0
Made (Ok plant) before answer after = (answer ≡ codes "ok") × (after ≡ with_plant before (any_model plant))
Made (Err failure) before answer after = FailedLine failure answer × (after ≡ before)

-- a question about the last plant, where there is one
abbrev pub Tells : (Model → List ℕ) → Option Model → List ℕ → Type 0
Tells line None answer = answer ≡ codes "no plant"
Tells line (Some m) answer = answer ≡ line m

-- what a call is answered
abbrev pub Answers : Meaning → State → List ℕ → State → Type 0
Answers (list Formula ws) before answer after = Makes (WordsGranted ws) (WordsRefused ws) accepted_line with_formula before answer after
Answers (list Table ws) before answer after = Makes (TableGranted ws) (First (table_rows ws)) (λ _. codes "ok") with_plant before answer after
Answers (list Rule ws) before answer after = Makes (RuleGranted ws) (First (rule_rows ws)) (λ _. codes "ok") with_plant before answer after
Answers (text bs) before answer after = Makes (TextGranted bs) (TextRefused bs) table_line with_formula before answer after
Answers (alone Ask) before answer after = Tells asked_line before.plant answer × (after ≡ before)
Answers (alone Help) before answer after = after ≡ before
Answers (one Initial i) before answer after = Tells (λ m. decimal (initial_at m i)) before.plant answer × (after ≡ before)
Answers (one Facts s) before answer after = Tells (λ m. decimal (m.system.facts s)) before.plant answer × (after ≡ before)
Answers (one Arcs s) before answer after = Tells (λ m. decimal (length (m.system.arcs s))) before.plant answer × (after ≡ before)
Answers (arc s i) before answer after = Tells (λ m. arc_line (arc_at m s i)) before.plant answer × (after ≡ before)

-- a call is answered by a line, what is skipped by nothing, and any other line is thrown back
pub record Replies (words : List Word) (line : List ℕ) (before : State) (reply : List ℕ) (after : State) : Type 0 where
  pub call : (m : Meaning) → Says words line m → (answer : List ℕ) × (reply ≡ answer ++ 10 ∷ []) × Answers m before answer after
  pub skip : Skipped line → (reply ≡ []) × (after ≡ before)
  pub what : (Skipped line → ⊥) → ((m : Meaning) → Says words line m → ⊥) → (reply ≡ (codes "what? " ++ line) ++ 10 ∷ []) × (after ≡ before)

-- a script is answered by the replies to its lines in their order, each by a console as the lines before have left it
pub data Answered (words : List Word) : List ℕ → State → List ℕ → Type 0 where
  at_end : (before : State) → Answered words [] before []
  at_line : (script line rest : List ℕ) (before after : State) (reply more : List ℕ) → Cut 10 script line rest → Replies words line before reply after → Answered words rest after more → Answered words script before (reply ++ more)
