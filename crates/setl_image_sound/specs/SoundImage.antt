-- Sound images: what code files hold that may be run.
use Rattle.std.specs.Prelude.{◌≡◌, ℕ, ◌<◌, ◌^◌, ◌+◌, false, List, [], ◌∷◌, map, length, slice_get, Some, IfSome, Result, Ok, Err, ⊤}
use Rattle.std.specs.List.{AllByRecursion}
use Rattle.setl_names.specs.Names.{Name, has_repeat}
use Rattle.setl_modes.specs.Modes.{Mode}
use Rattle.setl_model_runs.specs.Variable.{Variable, Global}
use Rattle.setl_code.specs.declared.code.OwnName.{OwnName}
use Rattle.setl_code.specs.declared.code.Body.{Body}
use Rattle.setl_code.specs.declared.code.Code.{Code}
use Rattle.setl_code.specs.Code as plain
use Rattle.setl_code.specs.MayRun.{Differ, MayRun}
use Rattle.setl_code.specs.Plain.{own_variables, plain_body, plain_code}
use Rattle.setl_code.specs.Sound.{Table, Sound, Closed, Few}
use Rattle.setl_image_format.specs.ImageCodec.{Image}
use Rattle.setl_image_modes.specs.SoundModes.{SoundModes}
use Rattle.setl_image_names.specs.Once.{StandsOnce, variable_of}
use Rattle.setl_image_operands.specs.Operands.{KeepsShapes}
use Rattle.setl_image_verify.specs.Turns.{HeightsFall}
use Rattle.setl_image_closed.specs.Closed.{IsClosed}
use Rattle.setl_live.specs.Takes.{TakesLast}
use Rattle.setl_image_sound.specs.declared.verifying.VerifyFault.{VerifyFault}
use Rattle.setl_image_sound.specs.declared.verifying.VerifyFault.TheVariants.{Unsound, NoMemory}

-- ---- what an image declares

-- the declared variables with their modes, in the order of the declarations
abbrev pub declarations_of : Image → List (Variable × Mode)
declarations_of i = map (λ d. (variable_of i.code.vars d.0, d.1)) i.vars

abbrev pub declared_of : Image → List Variable
declared_of i = map (λ d. variable_of i.code.vars d.0) i.vars

-- the own names of the main body
abbrev pub main_names : List Body → List OwnName
main_names [] = []
main_names (b ∷ bs) = b.names

abbrev pub names_of : List (Name × Mode) → List Name
names_of ds = map (λ d. d.0) ds

-- ---- sound images

-- An image that may be run.
pub record SoundImage (i : Image) : Type 0 where
  -- in no run an operand is missing or a taken variable is read, and each way round takes a turn
  pub sound : Sound (plain_code i.code) (declared_of i)
  -- each slot, step and body that is named is there, and each body ends
  pub closed : Closed (plain_code i.code)
  -- numbers of 32 bits are enough for steps, slots, bodies, bases and declared variables
  pub few : Few (plain_code i.code) (declared_of i)
  pub few_bases : length i.bases < 2 ^ 32
  -- each slot stands for a variable of its own, and each operator has as many operands as it needs
  pub may_run : MayRun i.code
  -- the main program, which nothing calls, has no parameters
  pub bare : IfSome (slice_get i.code.bodies 0) (λ b. b.parameters ≡ [])
  -- bases and declared variables have modes as a section may have them
  pub modes : SoundModes i.bases i.vars
  -- no base and no variable is declared twice, and each declared name is in `var` or one of the main body's own
  pub bases_once : has_repeat (names_of i.bases) ≡ false
  pub vars_once : has_repeat (names_of i.vars) ≡ false
  pub stand : AllByRecursion (StandsOnce i.code.vars (main_names i.code.bodies)) (names_of i.vars)

-- this holds where the answer is that an image isn't sound
abbrev pub IfUnsound : {X : Type 0} → Result X VerifyFault → Type 0 → Type 0
IfUnsound (Ok x) P = ⊤
IfUnsound (Err Unsound) P = P
IfUnsound (Err NoMemory) P = ⊤

-- ---- body by body

abbrev pub HasHeights : List plain.Step → Type 0
HasHeights steps = (heights : List ℕ) × HeightsFall steps heights

abbrev pub HasTable : List plain.Body → List plain.Step → Type 0
HasTable bodies steps = (table : Table) × KeepsShapes bodies steps table

-- A body of a sound image, with its number.
pub record SoundPart (c : Code) (declared : List Variable) (n : ℕ) (b : Body) : Type 0 where
  pub few : (length b.steps < 2 ^ 32) × (length b.parameters + length b.names < 2 ^ 32)
  pub closed : IsClosed c n b
  pub differ : Differ (own_variables n b.parameters b.names)
  pub takes : TakesLast declared n (plain_body (map Global c.vars) n b)
  pub falls : HasHeights (plain_body (map Global c.vars) n b).steps
  pub shapes : HasTable (plain_code c).bodies (plain_body (map Global c.vars) n b).steps

abbrev pub SoundParts : Code → List Variable → Type 0
SoundParts c declared = (n : ℕ) (b : Body) → slice_get c.bodies n ≡ Some b → SoundPart c declared n b

-- The counts of an image.
pub record FewIn (i : Image) : Type 0 where
  pub bodies : (0 < length i.code.bodies) × (length i.code.bodies < 2 ^ 32)
  pub names : (length i.code.vars < 2 ^ 32) × (length i.vars < 2 ^ 32) × (length i.bases < 2 ^ 32)
  pub bare : IfSome (slice_get i.code.bodies 0) (λ b. b.parameters ≡ [])

-- The declared names of an image.
pub record NamesStand (i : Image) : Type 0 where
  pub bases_once : has_repeat (names_of i.bases) ≡ false
  pub vars_once : has_repeat (names_of i.vars) ≡ false
  pub stand : AllByRecursion (StandsOnce i.code.vars (main_names i.code.bodies)) (names_of i.vars)

-- The names of an image.
pub record SoundNames (i : Image) : Type 0 where
  pub differ : Differ (map Global i.code.vars)
  pub names : NamesStand i
