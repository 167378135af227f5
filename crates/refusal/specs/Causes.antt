-- The number and the layer of each cause of a refusal. Assumes nothing.
use Rattle.std.specs.Prelude.{◌≡◌, ℕ}
use Rattle.refusal.specs.declared.Cause.{Cause}
use Rattle.refusal.specs.declared.Cause.TheVariants.{TableLength, TableEntry, TableParts, TableElementary, TextLength, TextByte, TextEnd, TextNumber, TextTable, PlantLength, PlantLimit, PlantRange, PlantRepeat, RuleSize, RuleValue, StateOpen, BookFull, StateClosed, EventBeyond, WorkspaceShort, WalkUnderWay, NoWalk, NoSuchIndex, RunShape, NotARun}
use Rattle.refusal.specs.declared.Layer.{Layer}
use Rattle.refusal.specs.declared.Layer.TheVariants.{Formula, Text, Plant, Session}
use Rattle.refusal.specs.declared.Refusal.{Refusal}

abbrev pub number_of : Cause → ℕ
number_of TableLength = 11
number_of TableEntry = 12
number_of TableParts = 13
number_of TableElementary = 14
number_of TextLength = 21
number_of TextByte = 22
number_of TextEnd = 23
number_of TextNumber = 24
number_of TextTable = 25
number_of PlantLength = 31
number_of PlantLimit = 32
number_of PlantRange = 33
number_of PlantRepeat = 34
number_of RuleSize = 35
number_of RuleValue = 36
number_of StateOpen = 41
number_of BookFull = 42
number_of StateClosed = 43
number_of EventBeyond = 44
number_of WorkspaceShort = 45
number_of WalkUnderWay = 47
number_of NoWalk = 48
number_of NoSuchIndex = 49
number_of RunShape = 50
number_of NotARun = 51

abbrev pub layer_of : Cause → Layer
layer_of TableLength = Formula
layer_of TableEntry = Formula
layer_of TableParts = Formula
layer_of TableElementary = Formula
layer_of TextLength = Text
layer_of TextByte = Text
layer_of TextEnd = Text
layer_of TextNumber = Text
layer_of TextTable = Text
layer_of PlantLength = Plant
layer_of PlantLimit = Plant
layer_of PlantRange = Plant
layer_of PlantRepeat = Plant
layer_of RuleSize = Plant
layer_of RuleValue = Plant
layer_of StateOpen = Session
layer_of BookFull = Session
layer_of StateClosed = Session
layer_of EventBeyond = Session
layer_of WorkspaceShort = Session
layer_of WalkUnderWay = Session
layer_of NoWalk = Session
layer_of NoSuchIndex = Session
layer_of RunShape = Session
layer_of NotARun = Session

-- what a planner is told by a refusal: a number, a layer and a place
pub record Gives (r : Refusal) (number : ℕ) (layer : Layer) (place : ℕ) : Type 0 where
  pub by_number : number_of r.cause ≡ number
  pub in_layer : layer_of r.cause ≡ layer
  pub at_place : r.place ≡ place
