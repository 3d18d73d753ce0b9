-- Images of programs: their declarations, and how they run.
use Rattle.std.proofs.Common.{◌≡◌, ◌∙◌, ◌<◌, ◌^◌, ℕ, Bool, true, false, cond, List, [], ◌∷◌, length, map, Option, Some, None, Result, Ok, Err, IfOk, if◌then◌else◌, refl, sym, ap, ap₂, subst}
use Rattle.std.specs.Prelude.{MatchOption}
use Rattle.setl_model_runs.specs.Variable.{Global, Own}
use Rattle.setl_modes.specs.Modes.{Mode}
use Rattle.setl_modes.specs.Declarations.{bases_of, variables_of}
use Rattle.setl_modes_declarations.specs.Declares.{named_modes}
use Rattle.setl_names.specs.Names.{Name, has, in_order}
use Rattle.setl_names.specs.Variables.{OfProgram, OfBody, var_names}
use Rattle.setl_program.specs.Program.{Program}
use Rattle.setl_program.specs.ProgramOf.{main_scope, declaration_of, program_of}
use Rattle.setl_program.specs.Scope as scope
use Rattle.setl_program.specs.Formed.{Formed}
use Rattle.setl_model.specs.Dump.{layout}
use Rattle.setl_model.specs.Entered.{entered}
use Rattle.setl_model.specs.Means.{Means}
use Rattle.setl_tree.specs.declared.tree.Tree.{Tree}
use Rattle.setl_code.specs.Code.{Code}
use Rattle.setl_code.specs.CodeMeans.{CodeMeans}
use Rattle.setl_code.specs.Plain.{plain_code}
use Rattle.setl_code_layout.specs.Claims.{MarkedCodeEndsWithLayout}
use Rattle.setl_code_layout.specs.Layout.{code_layout}
use Rattle.setl_code_marked.specs.Marked.{declared_in}
use Rattle.setl_code_simulation.specs.Claims.{Ended}
use Rattle.setl_code_marked_simulation.specs.Claims.{MarkedEndsAlike, MarkedEndsInTheSameState, RunEnds}
use Rattle.setl_image.specs.declared.image.Image.{Image as RustImage}
use Rattle.setl_image.specs.Views.{image_of}
use Rattle.setl_image_format.specs.ImageCodec.{image}
use Rattle.setl_image_names.specs.HasLaws.{has_all}
use Rattle.setl_image_names.specs.Once.{variable_of}
use Rattle.setl_program_laws.specs.Claims.{AcceptedIsFormed}
use Rattle.setl_top_images.specs.CodeFiles.{IsCodeFile}
use Rattle.setl_top_images.specs.Laws.{OneImage}
use Rattle.setl_top.specs.Built.{IsImageOf, IsBuilt, IsLongCode}
use Rattle.setl_top.specs.Laws.{CodeFilesRunAlike}
use Rattle.setl_top.specs.Listings.{IsMarked}
use Rattle.setl_top.specs.Runnable.{OfProgram, OfCode, of_image, RunsAlike}
use Rattle.setl_top.proofs.Accepting.{is_accepted}

-- ---- declarations

names_alike : (xs ys : List Name) → map Global xs ≡ map Global ys → xs ≡ ys
names_alike [] [] e = refl
names_alike [] (y ∷ ys) e = absurd (cc)
names_alike (x ∷ xs) [] e = absurd (cc)
names_alike (x ∷ xs) (y ∷ ys) e =
    let first : x ≡ y = cc in
    let others : map Global xs ≡ map Global ys = cc in
    ap₂ (λ z zs. z ∷ zs) first (names_alike xs ys others)

-- a declared name stands for the same variable
same_variable : (t : Tree) (x : Name) → scope.variable_of (main_scope t) x ≡ variable_of (var_names t.vars) x
same_variable t x = go (has (in_order (var_names t.vars)) x) (has_all [] (var_names t.vars) x)
  where
    go : (b : Bool) → b ≡ has (var_names t.vars) x → scope.variable_by (main_scope t) x (if b then OfProgram else OfBody) ≡ variable_of (var_names t.vars) x
    go true e = ap (λ d. cond d (Global x) (Own 0 x)) e
    go false e = ap (λ d. cond d (Global x) (Own 0 x)) e

same_declarations : (t : Tree) (ds : List (Name × Mode)) → map (λ d. (variable_of (var_names t.vars) d.0, d.1)) ds ≡ map (declaration_of (main_scope t)) ds
same_declarations t [] = refl
same_declarations t (d ∷ ds) = ap₂ (λ v rest. (v, d.1) ∷ rest) (sym (same_variable t d.0)) (same_declarations t ds)

-- code and modes that were made of a tree make an image of it
pub image_of_tree : (t : Tree) (i : RustImage) → IsMarked (program_of t) (plain_code i.code) → named_modes i.modes.bases ≡ bases_of t.modes → named_modes i.modes.vars ≡ variables_of t.modes → IsImageOf t (image_of i)
image_of_tree t i marked bases vars =
    let names : i.code.vars ≡ var_names t.vars = names_alike i.code.vars (var_names t.vars) marked.vars in
    record {
      marked = marked;
      declared =
          (λ k. map (λ d. (variable_of (names k) d.0, d.1)) (vars k))
          ∙ same_declarations t (variables_of t.modes);
      bases = bases;
      vars = vars;
    }

-- what is made of the image of a tree's program is a code file of it, or there is one too long
pub built_of : {V F : Type 0} (t : Tree) (p : Program) (i : RustImage) (items : V → List ℕ) (r : Result (Option V) F) → p ≡ program_of t → IsMarked p (plain_code i.code) → named_modes i.modes.bases ≡ bases_of t.modes → named_modes i.modes.vars ≡ variables_of t.modes →
    IfOk r (λ text. MatchOption text (image.Fits (image_of i) × (2 ^ 26 < length (image.write (image_of i)))) (λ v. IsCodeFile (items v) (image_of i))) →
    IfOk r (λ text. MatchOption text (IsLongCode t) (λ v. IsBuilt t (items v)))
built_of t p i items (Ok (Some v)) is marked bases vars h =
    record { whole = image_of i; of_tree = image_of_tree t i (subst (λ q. IsMarked q (plain_code i.code)) is marked) bases vars; file = h }
built_of t p i items (Ok None) is marked bases vars h =
    record { whole = image_of i; of_tree = image_of_tree t i (subst (λ q. IsMarked q (plain_code i.code)) is marked) bases vars; fits = h.0; long = h.1 }
built_of t p i items (Err e) is marked bases vars h = h

-- ---- runs

module _ (ends : MarkedEndsAlike) (last : MarkedEndsInTheSameState) (laid : MarkedCodeEndsWithLayout) (names : List (List ℕ)) (p : Program) (formed : Formed p) (c : Code) (marked : IsMarked p c) where
  program_alike : RunsAlike (OfProgram names p) (OfCode names c p.modes)
  program_alike input turns based out e m =
      let means : Means p input turns based out e = m.so.0 in
      let told : Ended p input turns based out means.last.events e = record { steps = means.steps; last = means.last; ends = means.ends; written = means.written; told = refl } in
      let code : RunEnds c p input turns based out means.last.events e = (ends p formed (declared_in p.modes) c marked input turns based out means.last.events e).0 told in
      let meant : CodeMeans c p.modes input turns based out e = record { steps = code.steps; last = code.last; ends = code.ends; written = code.written } in
      let same = last p formed (declared_in p.modes) c marked input turns based out out e e means meant in
      let dump : List ℕ = code_layout names p.modes (λ b. entered p.modes b code.last.events) code.last.core in
      (record { events = code.last.events; left = code.last.core.world.input; dump = dump; so = (meant, refl, refl, refl) }, code.told ∙ sym m.so.1, ap (λ w. w.input) same.core.world ∙ sym m.so.2, sym (((laid p formed c marked input turns based out e meant).same means).dump names) ∙ sym m.so.3)

  code_alike : RunsAlike (OfCode names c p.modes) (OfProgram names p)
  code_alike input turns based out e m =
      let meant : CodeMeans c p.modes input turns based out e = m.so.0 in
      let told : RunEnds c p input turns based out meant.last.events e = record { steps = meant.steps; last = meant.last; ends = meant.ends; written = meant.written; told = refl } in
      let whole : Ended p input turns based out meant.last.events e = (ends p formed (declared_in p.modes) c marked input turns based out meant.last.events e).1 told in
      let means : Means p input turns based out e = record { steps = whole.steps; last = whole.last; ends = whole.ends; written = whole.written } in
      let same = last p formed (declared_in p.modes) c marked input turns based out out e e means meant in
      (record { events = whole.last.events; left = whole.last.core.shared.world.input; dump = layout names p.modes whole.last; so = (means, refl, refl, refl) }, whole.told ∙ sym m.so.1, ap (λ w. w.input) (sym same.core.world) ∙ sym m.so.2, ((laid p formed c marked input turns based out e meant).same means).dump names ∙ sym m.so.3)

pub files_alike : OneImage → AcceptedIsFormed → MarkedEndsAlike → MarkedEndsInTheSameState → MarkedCodeEndsWithLayout → CodeFilesRunAlike
files_alike one law ends last laid source bytes tree i is built file =
    let p = program_of tree in
    let c = plain_code built.whole.code in
    let formed : Formed p = law tree (is_accepted source tree is) in
    let names : List (List ℕ) = map (λ b. b.0) (bases_of tree.modes) in
    let there : OfCode names c p.modes ≡ of_image i = ap₂ (λ bs ms. OfCode (map (λ b. b.0) bs) c ms) (sym built.of_tree.bases) (sym built.of_tree.declared) ∙ ap of_image (one bytes built.whole i built.file file) in (
      subst (λ s. RunsAlike (OfProgram names p) s) there (program_alike ends last laid names p formed c built.of_tree.marked),
      subst (λ s. RunsAlike s (OfProgram names p)) there (code_alike ends last laid names p formed c built.of_tree.marked),
    )
