-- What is ready to run, and what a run of it is.
use Rattle.std.proofs.Common.{◌≡◌, ◌∙◌, ℕ, Bool, true, false, cond, List, [], ◌∷◌, map, IfSome, refl, sym, ap, subst}
use Rattle.std.specs.Prelude.{slice_get}
use Rattle.setl_model_runs.specs.Events.{Stuck}
use Rattle.setl_model_runs.specs.Variable.{Variable, Global, Own}
use Rattle.setl_model.specs.Means.{Means}
use Rattle.setl_modes.specs.Modes.{Mode, mode_of}
use Rattle.setl_modes.specs.Declarations.{bases_of}
use Rattle.setl_modes.specs.declared.mode.NamedMode.{NamedMode}
use Rattle.setl_modes_declarations.specs.Declares.{named_modes}
use Rattle.setl_names.specs.Names.{Name, has}
use Rattle.setl_program.specs.Formed.{Formed}
use Rattle.setl_program.specs.Program.{Program}
use Rattle.setl_program.specs.ProgramOf.{program_of}
use Rattle.setl_program.specs.code.Plain.{plain_declared, plain_program}
use Rattle.setl_program.specs.declared.program.Declared.{Declared}
use Rattle.setl_program.specs.declared.program.Program.{Program as RustProgram}
use Rattle.setl_program_laws.specs.Claims.{IsAccepted, AcceptedIsFormed}
use Rattle.setl_tree.specs.declared.tree.Tree.{Tree}
use Rattle.setl_code.specs.declared.code.Body.{Body}
use Rattle.setl_code.specs.declared.code.Code.{Code as RustCode}
use Rattle.setl_code.specs.CodeMeans.{CodeMeans}
use Rattle.setl_code.specs.MayRun.{MayRun}
use Rattle.setl_code.specs.Plain.{plain_bodies, plain_code}
use Rattle.setl_image.specs.declared.image.Image.{Image as RustImage}
use Rattle.setl_image.specs.Views.{image_of, named_of}
use Rattle.setl_image_names.specs.Once.{variable_of}
use Rattle.setl_image_sound.specs.Laws.{NoImageIsStuck}
use Rattle.setl_image_sound.specs.SoundImage.{SoundImage}
use Rattle.setl_machine_control.specs.Declaring.{AreOfMain, IsOfMain}
use Rattle.setl_io.specs.Files.{Texts, IsText}
use Rattle.setl_image_format.specs.ImageCodec.{Image}
use Rattle.setl_top_images.specs.CodeFiles.{IsCodeFile}
use Rattle.setl_top_words.specs.declared.reading.FileKind.TheVariants.{Source, CodeFile}
use Rattle.setl_top.specs.code.Loads.{Loaded}
use Rattle.setl_top.specs.Listings.{IsMarked}
use Rattle.setl_top.specs.Runnable.{Runnable, OfProgram, OfCode, of_tree, of_image}
use Rattle.setl_top.specs.code.Ready.{IsReady, LoadedReady}
use Rattle.setl_top.specs.code.Runs.{IsMeant}
use Rattle.setl_top.specs.declared.ready.Ready.{Ready}
use Rattle.setl_top.proofs.CodeReaching.{code_stands}
use Rattle.setl_top.proofs.Declaring.{code_is_bare, modes_of_main}
use Rattle.setl_top.proofs.Reaching.{CodeLaws, program_stands}
use Rattle.setl_top.proofs.Stands.{Stands}
use Rattle.setl_top_words.specs.Words.{Options}

-- the names of bases are those that stand with their modes
names_alike : (bs : List NamedMode) → map (λ b. b.name) bs ≡ map {B = Name} (λ b. b.0) (named_modes bs)
names_alike [] = refl
names_alike (b ∷ bs) = ap (λ rest. b.name ∷ rest) (names_alike bs)

-- ---- of a source

pub source_ready : (tree : Tree) (program : RustProgram) (code : RustCode) (bases : List NamedMode) → named_modes bases ≡ bases_of tree.modes → IsAccepted tree → plain_program program ≡ program_of tree → MayRun code → IsMarked (plain_program program) (plain_code code) → IsReady (of_tree tree) (record { code = code; bases = bases; declared = program.declared })
source_ready tree program code bases named accepted is may_run marked =
    let p = program_of tree in
    let meant : IsMeant p = record { tree = tree; accepted = accepted; meaning = refl } in
    let here : IsMarked p (plain_code code) = subst (λ q. IsMarked q (plain_code code)) is marked in
    let declared : map plain_declared program.declared ≡ p.modes = ap (λ (q : Program). q.modes) is in
    record {
      may_run = may_run;
      bare = code_is_bare p (plain_code code) here;
      main = subst AreOfMain (sym declared) (modes_of_main p meant);
      runs = (meant, here);
      bases = names_alike bases ∙ ap (map (λ b. b.0)) named;
      declared = declared;
    }

-- ---- of a code file

bare_plain : (vars : List Variable) (bs : List Body) → IfSome (slice_get bs 0) (λ b. b.parameters ≡ []) → IfSome (slice_get (plain_bodies vars 0 bs) 0) (λ b. b.parameters ≡ [])
bare_plain vars [] h = tt
bare_plain vars (b ∷ bs) h = ap (map _) h

of_main : (vars : List Name) (x : Name) → IsOfMain (variable_of vars x)
of_main vars x = go (has vars x)
  where
    go : (b : Bool) → IsOfMain (cond b (Global x) (Own 0 x))
    go true = tt
    go false = tt

all_of_main : (vars : List Name) (ds : List NamedMode) → AreOfMain (map (λ d. (variable_of vars d.name, mode_of d.mode)) ds)
all_of_main vars [] = tt
all_of_main vars (d ∷ ds) = (of_main vars d.name, all_of_main vars ds)

declared_so : (vars : List Name) (ds : List NamedMode) → map (λ d. (variable_of vars d.name, mode_of d.mode)) ds ≡ map {B = Variable × Mode} (λ d. (variable_of vars d.0, d.1)) (map named_of ds)
declared_so vars [] = refl
declared_so vars (d ∷ ds) = ap (λ rest. (variable_of vars d.name, mode_of d.mode) ∷ rest) (declared_so vars ds)

pub image_ready : (i : RustImage) (ds : List Declared) → SoundImage (image_of i) → map plain_declared ds ≡ map (λ d. (variable_of i.code.vars d.name, mode_of d.mode)) i.modes.vars → IsReady (of_image (image_of i)) (record { code = i.code; bases = i.modes.bases; declared = ds })
image_ready i ds sound is = record {
  may_run = sound.may_run;
  bare = bare_plain (map Global i.code.vars) i.code.bodies sound.bare;
  main = subst AreOfMain (sym is) (all_of_main i.code.vars i.modes.vars);
  runs = (image_of i, sound, refl, refl);
  bases = names_alike i.modes.bases;
  declared = is ∙ declared_so i.code.vars i.modes.vars;
}

-- ---- what was loaded

pub source_held : (texts : Texts) (name : List ℕ) (tree : Tree) (ready : Ready) → Loaded texts name tree → IsReady (of_tree tree) ready → LoadedReady Source texts name ready
source_held texts name tree ready l is = record {
  bytes = l.source;
  text = l.text;
  runnable = of_tree tree;
  holds = (tree, l.is_program, refl);
  is_ready = is;
}

pub code_held : (texts : Texts) (name bytes : List ℕ) (i : Image) (ready : Ready) → IsText texts name bytes → IsCodeFile bytes i → IsReady (of_image i) ready → LoadedReady CodeFile texts name ready
code_held texts name bytes i ready text file is = record { bytes = bytes; text = text; runnable = of_image i; holds = (i, file, refl); is_ready = is }

-- ---- runs

-- that a run of it is stuck
abbrev StuckIn : Options → (input out : List ℕ) → Runnable → Type 0
StuckIn asked input out (OfProgram names p) = Means p input asked.turns asked.based out Stuck
StuckIn asked input out (OfCode names c modes) = CodeMeans c modes input asked.turns asked.based out Stuck

-- the states of the run of what is ready are those of what is to be run
pub stands_for : CodeLaws → AcceptedIsFormed → NoImageIsStuck → (r : Runnable) (ready : Ready) → IsReady r ready → (asked : Options) (input : List ℕ) → Stands r (plain_code ready.code) asked input
stands_for laws law never (OfProgram names p) ready is asked input =
    let m = is.runs.0 in
    let formed : Formed p = subst Formed (sym m.meaning) (law m.tree m.accepted) in
    program_stands laws names p formed (plain_code ready.code) is.runs.1 asked input
stands_for laws law never (OfCode names c modes) ready is asked input =
    let i = is.runs.0 in
    let none : (out : List ℕ) → CodeMeans c modes input asked.turns asked.based out Stuck → ⊥ = λ out m. never i is.runs.1 input asked.turns asked.based out (subst (StuckIn asked input out) is.runs.2 m) in
    subst (λ k. Stands (OfCode names c modes) k asked input) (sym is.runs.3) (code_stands names c modes asked input none)
