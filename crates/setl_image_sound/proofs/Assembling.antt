-- A sound image by its parts.
use Rattle.std.proofs.Common.{◌≡◌, ◌∙◌, ◌<◌, ◌≤◌, ◌+◌, ◌^◌, inl, inr, ℕ, zero, suc, Bool, true, false, cond, List, [], ◌∷◌, ◌++◌, map, length, Option, Some, None, IfSome, Result, Ok, Err, IfOk, refl, sym, ap, subst, arith}
use Rattle.std.specs.Prelude.{slice_get, ◌&&◌, ◌||◌, ◌↔◌, IsTrue, nat_lt, nat_eq, bytes_eq, not, is_some, MatchOption}
use Rattle.std.specs.Option.{option_map}
use Rattle.std.specs.List.{AllByRecursion}
use Rattle.std.proofs.lemmas.Bool.{ltb-true, lt-ltb, cases_eq}
use Rattle.std.proofs.Math.Dec.{eqb-suc-zero}
use Rattle.std.proofs.lemmas.List.{length-append, length-map}
use Rattle.setl_tree.specs.declared.tree.Param.{Param}
use Rattle.setl_names.specs.Names.{Name, has, with_name, has_repeat}
use Rattle.setl_modes.specs.declared.mode.NamedMode.{NamedMode}
use Rattle.setl_modes.specs.declared.mode.ModeTable.{ModeTable}
use Rattle.setl_modes.specs.Modes.{Mode, mode_of}
use Rattle.setl_model_runs.specs.Variable.{Variable, Global, Own, Bound, is_variable}
use Rattle.setl_program.specs.ProgramOf.{parameter_of}
use Rattle.setl_program.specs.Program.{Parameter}
use Rattle.setl_code.specs.declared.code.OwnName.{OwnName}
use Rattle.setl_code.specs.declared.code.Body.{Body}
use Rattle.setl_code.specs.declared.code.Code.{Code}
use Rattle.setl_code.specs.Code as plain
use Rattle.setl_code.specs.CodeCore.{variables_of}
use Rattle.setl_code.specs.MayRun.{Differ, StepsFit, BodiesFit, MayRun}
use Rattle.setl_code.specs.Names.{is_among}
use Rattle.setl_code.specs.Plain.{own_variables, plain_name, plain_step, plain_body, plain_bodies, plain_code, Variables}
use Rattle.setl_code.specs.Sound.{SoundBody, Sound, ClosedBody, Closed, Few}
use Rattle.setl_live.specs.Slots.{OnlyMain, TellsDeclared, with_main, with_all_main}
use Rattle.setl_live.specs.Takes.{TakesLast, TellsTakes}
use Rattle.setl_image_closed.specs.Closed.{IsClosed}
use Rattle.setl_image_format.specs.ImageCodec as format
use Rattle.setl_image.specs.declared.image.Image.{Image}
use Rattle.setl_image.specs.Views.{named_of, table_of, image_of}
use Rattle.setl_image_modes.specs.SoundModes.{SoundModes}
use Rattle.setl_image_names.specs.Once.{StandsOnce, variable_of, own_after, declared_names}
use Rattle.setl_image_operands.specs.Operands.{KeepsShapes, HasShapes}
use Rattle.setl_image_verify.specs.Turns.{HeightsFall}
use Rattle.setl_image_sound.specs.SoundImage.{declarations_of, declared_of, main_names, names_of, SoundImage, SoundPart, SoundParts, FewIn, HasHeights, HasTable, NamesStand, SoundNames}
use Rattle.setl_image_sound.specs.Counts.{is_none, is_bare, few_in, few_of}

-- ---- answers

-- an answer no
pub refuse : {P Q : Type 0} (so : Bool) → IsTrue so ↔ P → so ≡ false → (Q → P) → IsTrue false ↔ Q
refuse so tells nope needs = ((λ h. cc), λ q. absurd (no (sym nope ∙ tells.1 (needs q))))
  where
    no : false ≡ true → ⊥
    no h = cc

pub refuse_by : {P Q : Type 0} → (P → ⊥) → (Q → P) → IsTrue false ↔ Q
refuse_by none needs = ((λ h. cc), λ q. absurd (none (needs q)))

-- the last answer
pub last_by : {P Q E : Type 0} (r : Result Bool E) → (P → Q) → (Q → P) → IfOk r (λ so. IsTrue so ↔ P) → IfOk r (λ so. IsTrue so ↔ Q)
last_by (Ok so) to from h = ((λ is. to (h.0 is)), λ q. h.1 (from q))
last_by (Err e) to from h = tt

both : (a b : Bool) → a && b ≡ true → (a ≡ true) × (b ≡ true)
both true b h = (refl, h)
both false b h = cc

join : (a b : Bool) → a ≡ true → b ≡ true → a && b ≡ true
join true b h g = g
join false b h g = cc

length_map : {A B : Type 0} (f : A → B) (xs : List A) → length (map f xs) ≡ length xs
length_map f [] = refl
length_map f (x ∷ xs) = ap suc (length_map f xs)

-- ---- plain bodies

-- the body of which a plain body is made
record Made (vars : List Variable) (m : ℕ) (o : Option Body) (b : plain.Body) : Type 0 where
  body : Body
  is : o ≡ Some body
  made : plain_body vars m body ≡ b

get_plain : (vars : List Variable) (n m : ℕ) (bs : List Body) (k : ℕ) → m ≡ n + k → slice_get (plain_bodies vars n bs) k ≡ option_map (plain_body vars m) (slice_get bs k)
get_plain vars n m [] k at = refl
get_plain vars n m (b ∷ bs) zero at = let here : n ≡ m = omega arith in ap (λ (j : ℕ). Some (plain_body vars j b)) here
get_plain vars n m (b ∷ bs) (suc k) at = get_plain vars (suc n) m bs k (omega arith)

zero_plus : (n : ℕ) → n ≡ 0 + n
zero_plus n = omega arith

made_of : (vars : List Variable) (bs : List Body) (n : ℕ) (b : plain.Body) → slice_get (plain_bodies vars 0 bs) n ≡ Some b → Made vars n (slice_get bs n) b
made_of vars bs n b is = go (slice_get bs n) (sym (get_plain vars 0 n bs n (zero_plus n)) ∙ is)
  where
    go : (o : Option Body) → option_map (plain_body vars n) o ≡ Some b → Made vars n o b
    go None h = cc
    go (Some d) h = let same : plain_body vars n d ≡ b = cc in record { body = d; is = refl; made = same }

to_plain : (vars : List Variable) (bs : List Body) (n : ℕ) (d : Body) → slice_get bs n ≡ Some d → slice_get (plain_bodies vars 0 bs) n ≡ Some (plain_body vars n d)
to_plain vars bs n d is = get_plain vars 0 n bs n (zero_plus n) ∙ ap (option_map (plain_body vars n)) is

bodies_count : (vars : List Variable) (n : ℕ) (bs : List Body) → length (plain_bodies vars n bs) ≡ length bs
bodies_count vars n [] = refl
bodies_count vars n (b ∷ bs) = ap suc (bodies_count vars (suc n) bs)

names_count : (n : ℕ) (ps : List Param) (ns : List OwnName) → length (map (λ (p : Parameter). Own n p.name) (map parameter_of ps) ++ map (plain_name n) ns) ≡ length ps + length ns
names_count n ps ns = simp (length-append, length-map)

-- ---- code that may run

bodies_fit : (g n : ℕ) (bs : List Body) → ((k m : ℕ) (b : Body) → m ≡ n + k → slice_get bs k ≡ Some b → Differ (own_variables m b.parameters b.names) × StepsFit g (length b.parameters + length b.names) b.steps) → BodiesFit g n bs
bodies_fit g n [] h = tt
bodies_fit g n (b ∷ bs) h = let here = h 0 n b (omega arith) refl in (here.0, here.1, bodies_fit g (suc n) bs (λ k m d at is. h (suc k) m d (omega arith) is))

body_fits : (g n m : ℕ) (bs : List Body) (k : ℕ) (b : Body) → m ≡ n + k → BodiesFit g n bs → slice_get bs k ≡ Some b → Differ (own_variables m b.parameters b.names) × StepsFit g (length b.parameters + length b.names) b.steps
body_fits g n m [] k b at fit is = cc
body_fits g n m (c ∷ bs) zero b at fit is =
    let same : c ≡ b = cc in
    let here : n ≡ m = omega arith in
    subst (λ (d : Body). Differ (own_variables m d.parameters d.names) × StepsFit g (length d.parameters + length d.names) d.steps) same
    (subst (λ (j : ℕ). Differ (own_variables j c.parameters c.names)) here fit.0, fit.1)
body_fits g n m (c ∷ bs) (suc k) b at fit is = body_fits g (suc n) m bs k b (omega arith) fit.2 is

-- ---- parts

few_steps : (b : Body) → few_of b ≡ true → (length b.steps < 2 ^ 32) × (length b.parameters + length b.names < 2 ^ 32)
few_steps b h =
    let two = both (nat_lt (length b.steps) (2 ^ 32)) (nat_lt (length b.parameters + length b.names) (2 ^ 32)) h in
    (ltb-true (length b.steps) (2 ^ 32) two.0, ltb-true (length b.parameters + length b.names) (2 ^ 32) two.1)

to_few : (b : Body) → (length b.steps < 2 ^ 32) × (length b.parameters + length b.names < 2 ^ 32) → few_of b ≡ true
to_few b h = join (nat_lt (length b.steps) (2 ^ 32)) (nat_lt (length b.parameters + length b.names) (2 ^ 32)) (lt-ltb (length b.steps) (2 ^ 32) h.0) (lt-ltb (length b.parameters + length b.names) (2 ^ 32) h.1)

pub few_tells : (b : Body) (so : Bool) → so ≡ few_of b → IsTrue so ↔ (length b.steps < 2 ^ 32) × (length b.parameters + length b.names < 2 ^ 32)
few_tells b so is = ((λ h. few_steps b (sym is ∙ h)), λ few. is ∙ to_few b few)

-- ---- the counts

is_bare_main : (bs : List Body) → is_bare bs ≡ true → IfSome (slice_get bs 0) (λ b. b.parameters ≡ [])
is_bare_main [] h = tt
is_bare_main (b ∷ bs) h = go b.parameters h
  where
    go : (ps : List Param) → is_none ps ≡ true → ps ≡ []
    go [] h = refl
    go (p ∷ ps) h = cc

to_bare : (bs : List Body) → IfSome (slice_get bs 0) (λ b. b.parameters ≡ []) → is_bare bs ≡ true
to_bare [] h = refl
to_bare (b ∷ bs) h = ap is_none h

module _ (image : Image) where
  abbrev c : Code
  c = image.code

  abbrev i : format.Image
  i = image_of image

  abbrev vars : List Variable
  vars = map Global image.code.vars

  counts_of : few_in c image.modes ≡ true → FewIn i
  counts_of h =
      let a = both (nat_lt 0 (length c.bodies) && nat_lt (length c.bodies) (2 ^ 32) && nat_lt (length c.vars) (2 ^ 32) && nat_lt (length image.modes.vars) (2 ^ 32) && nat_lt (length image.modes.bases) (2 ^ 32)) (is_bare c.bodies) h in
      let b = both (nat_lt 0 (length c.bodies) && nat_lt (length c.bodies) (2 ^ 32) && nat_lt (length c.vars) (2 ^ 32) && nat_lt (length image.modes.vars) (2 ^ 32)) (nat_lt (length image.modes.bases) (2 ^ 32)) a.0 in
      let d = both (nat_lt 0 (length c.bodies) && nat_lt (length c.bodies) (2 ^ 32) && nat_lt (length c.vars) (2 ^ 32)) (nat_lt (length image.modes.vars) (2 ^ 32)) b.0 in
      let e = both (nat_lt 0 (length c.bodies) && nat_lt (length c.bodies) (2 ^ 32)) (nat_lt (length c.vars) (2 ^ 32)) d.0 in
      let f = both (nat_lt 0 (length c.bodies)) (nat_lt (length c.bodies) (2 ^ 32)) e.0 in
      record {
        bodies = (ltb-true 0 (length c.bodies) f.0, ltb-true (length c.bodies) (2 ^ 32) f.1);
        names = (
          ltb-true (length c.vars) (2 ^ 32) e.1,
          subst (λ n. n < 2 ^ 32) (sym (length_map named_of image.modes.vars)) (ltb-true (length image.modes.vars) (2 ^ 32) d.1),
          subst (λ n. n < 2 ^ 32) (sym (length_map named_of image.modes.bases)) (ltb-true (length image.modes.bases) (2 ^ 32) b.1),
        );
        bare = is_bare_main c.bodies a.1;
      }

  to_counts : FewIn i → few_in c image.modes ≡ true
  to_counts few =
      let f = join (nat_lt 0 (length c.bodies)) (nat_lt (length c.bodies) (2 ^ 32)) (lt-ltb 0 (length c.bodies) few.bodies.0) (lt-ltb (length c.bodies) (2 ^ 32) few.bodies.1) in
      let e = join (nat_lt 0 (length c.bodies) && nat_lt (length c.bodies) (2 ^ 32)) (nat_lt (length c.vars) (2 ^ 32)) f (lt-ltb (length c.vars) (2 ^ 32) few.names.0) in
      let d = join (nat_lt 0 (length c.bodies) && nat_lt (length c.bodies) (2 ^ 32) && nat_lt (length c.vars) (2 ^ 32)) (nat_lt (length image.modes.vars) (2 ^ 32)) e (lt-ltb (length image.modes.vars) (2 ^ 32) (subst (λ n. n < 2 ^ 32) (length_map named_of image.modes.vars) few.names.1)) in
      let b = join (nat_lt 0 (length c.bodies) && nat_lt (length c.bodies) (2 ^ 32) && nat_lt (length c.vars) (2 ^ 32) && nat_lt (length image.modes.vars) (2 ^ 32)) (nat_lt (length image.modes.bases) (2 ^ 32)) d (lt-ltb (length image.modes.bases) (2 ^ 32) (subst (λ n. n < 2 ^ 32) (length_map named_of image.modes.bases) few.names.2)) in
      join (nat_lt 0 (length c.bodies) && nat_lt (length c.bodies) (2 ^ 32) && nat_lt (length c.vars) (2 ^ 32) && nat_lt (length image.modes.vars) (2 ^ 32) && nat_lt (length image.modes.bases) (2 ^ 32)) (is_bare c.bodies) b (to_bare c.bodies few.bare)

  pub counts_tell : (so : Bool) → so ≡ few_in c image.modes → IsTrue so ↔ FewIn i
  counts_tell so is = ((λ h. counts_of (sym is ∙ h)), λ few. is ∙ to_counts few)

  -- ---- what a sound image has

  pub few_of_sound : SoundImage i → FewIn i
  few_of_sound s = record {
    bodies = (subst (λ n. 0 < n) (bodies_count vars 0 c.bodies) s.sound.main, subst (λ n. n < 2 ^ 32) (bodies_count vars 0 c.bodies) s.few.counts.0);
    names = (
      subst (λ n. n < 2 ^ 32) (length_map Global c.vars) s.few.counts.1,
      subst (λ n. n < 2 ^ 32) (length_map (λ (d : format.Named). variable_of c.vars d.0) i.vars) s.few.counts.2,
      s.few_bases,
    );
    bare = s.bare;
  }

  pub names_of_sound : SoundImage i → SoundNames i
  names_of_sound s = record { differ = s.may_run.0; names = record { bases_once = s.bases_once; vars_once = s.vars_once; stand = s.stand } }

  pub parts_of_sound : SoundImage i → SoundParts c (declared_of i)
  parts_of_sound s n d is =
      let there = to_plain vars c.bodies n d is in
      let sound = s.sound.bodies n (plain_body vars n d) there in
      let closed = s.closed.bodies n (plain_body vars n d) there in
      let few = s.few.bodies n (plain_body vars n d) there in
      let fits = body_fits (length c.vars) 0 n c.bodies n d (zero_plus n) s.may_run.1 is in
      record {
        few = (
          subst (λ k. k < 2 ^ 32) (length_map (plain_step (record { global = vars; own = own_variables n d.parameters d.names })) d.steps) few.0,
          subst (λ k. k < 2 ^ 32) (names_count n d.parameters d.names) few.1,
        );
        closed = record { fits = fits.1; closed = closed; below = sound.below };
        differ = fits.0;
        takes = sound.takes;
        falls = (sound.heights, sound.falls);
        shapes = (sound.table, record { whole = sound.whole; starts = sound.starts; fine = sound.fine });
      }

  -- ---- and what makes an image sound

  body_of : (parts : SoundParts c (declared_of i)) (n : ℕ) (b : plain.Body) → slice_get (plain_code c).bodies n ≡ Some b → SoundBody (plain_code c) (declared_of i) n b × ClosedBody (plain_code c) n b × ((length b.steps < 2 ^ 32) × (length (variables_of n b) < 2 ^ 32))
  body_of parts n b is =
      let m = made_of vars c.bodies n b is in
      let part = parts n m.body m.is in
      subst (λ (d : plain.Body). SoundBody (plain_code c) (declared_of i) n d × ClosedBody (plain_code c) n d × ((length d.steps < 2 ^ 32) × (length (variables_of n d) < 2 ^ 32))) m.made (
        record {
          below = part.closed.below;
          table = part.shapes.0;
          whole = part.shapes.1.whole;
          starts = part.shapes.1.starts;
          fine = part.shapes.1.fine;
          heights = part.falls.0;
          falls = part.falls.1;
          takes = part.takes;
        },
        part.closed.closed,
        (
          subst (λ k. k < 2 ^ 32) (sym (length_map (plain_step (record { global = vars; own = own_variables n m.body.parameters m.body.names })) m.body.steps)) part.few.0,
          subst (λ k. k < 2 ^ 32) (sym (names_count n m.body.parameters m.body.names)) part.few.1,
        ),
      )

  pub sound_of_parts : FewIn i → SoundModes i.bases i.vars → SoundNames i → SoundParts c (declared_of i) → SoundImage i
  sound_of_parts few modes names parts = record {
    sound = record { bodies = λ n b is. (body_of parts n b is).0; main = subst (λ n. 0 < n) (sym (bodies_count vars 0 c.bodies)) few.bodies.0 };
    closed = record { bodies = λ n b is. (body_of parts n b is).1 };
    few = record {
      bodies = λ n b is. (body_of parts n b is).2;
      counts = (
        subst (λ n. n < 2 ^ 32) (sym (bodies_count vars 0 c.bodies)) few.bodies.1,
        subst (λ n. n < 2 ^ 32) (sym (length_map Global c.vars)) few.names.0,
        subst (λ n. n < 2 ^ 32) (sym (length_map (λ (d : format.Named). variable_of c.vars d.0) i.vars)) few.names.1,
      );
    };
    few_bases = few.names.2;
    may_run = (
      names.differ,
      bodies_fit (length c.vars) 0 c.bodies (λ k m d at is. (
          let here : k ≡ m = omega arith in
          let part = parts k d is in
          subst (λ (j : ℕ). Differ (own_variables j d.parameters d.names) × StepsFit (length c.vars) (length d.parameters + length d.names) d.steps) here (part.differ, part.closed.fits)
          )),
    );
    bare = few.bare;
    modes = modes;
    bases_once = names.names.bases_once;
    vars_once = names.names.vars_once;
    stand = names.names.stand;
  }

-- ---- declared variables

named_is : (n : ℕ) (name x : List ℕ) (vars : List Name) → is_variable (Own (suc n) name) (variable_of vars x) ≡ false
named_is n name x vars = go (has vars x)
  where
    unlike : nat_eq (suc n) 0 ≡ false
    unlike = eqb-suc-zero n

    go : (b : Bool) → is_variable (Own (suc n) name) (cond b (Global x) (Own 0 x)) ≡ false
    go true = refl
    go false = ap (λ b. b && bytes_eq name x) unlike

pub only_main : (i : format.Image) → OnlyMain (declared_of i)
only_main i = record { procedures = λ n name. procedure n name i.vars; formers = λ former name. bound former name i.vars }
  where
    procedure : (n : ℕ) (name : List ℕ) (ds : List format.Named) → is_among (map (λ d. variable_of i.code.vars d.0) ds) (Own (suc n) name) ≡ false
    procedure n name [] = refl
    procedure n name (d ∷ ds) = ap (λ b. b || is_among (map (λ d. variable_of i.code.vars d.0) ds) (Own (suc n) name)) (named_is n name d.0 i.code.vars) ∙ procedure n name ds

    bound : (former : ℕ) (name : List ℕ) (ds : List format.Named) → is_among (map (λ d. variable_of i.code.vars d.0) ds) (Bound former name) ≡ false
    bound former name [] = refl
    bound former name (d ∷ ds) = ap (λ b. b || is_among (map (λ d. variable_of i.code.vars d.0) ds) (Bound former name)) (other (has i.code.vars d.0)) ∙ bound former name ds
      where
        other : (b : Bool) → is_variable (Bound former name) (cond b (Global d.0) (Own 0 d.0)) ≡ false
        other true = refl
        other false = refl

-- the names that are found are those of the main program's own declared variables
own_main : (vars names : List Name) (ds : List NamedMode) → own_after vars names (declared_names ds) ≡ with_all_main names (map (λ (d : format.Named). variable_of vars d.0) (map named_of ds))
own_main vars names [] = refl
own_main vars names (d ∷ ds) = own_main vars (cond (has vars d.name) names (with_name names d.name)) ds ∙ ap (λ (ns : List Name). with_all_main ns (map (λ (e : format.Named). variable_of vars e.0) (map named_of ds))) (go (has vars d.name))
  where
    go : (b : Bool) → cond b names (with_name names d.name) ≡ with_main names (cond b (Global d.name) (Own 0 d.name))
    go true = refl
    go false = refl

pub own_found : (image : Image) (vars : List Name) (own : List Name) → vars ≡ image.code.vars → own ≡ own_after vars [] (declared_names image.modes.vars) → own ≡ with_all_main [] (declared_of (image_of image))
own_found image vars own same is = is ∙ ap (λ (vs : List Name). own_after vs [] (declared_names image.modes.vars)) same ∙ own_main image.code.vars [] image.modes.vars

-- ---- names

declared_same : (ds : List NamedMode) → names_of (map named_of ds) ≡ declared_names ds
declared_same [] = refl
declared_same (d ∷ ds) = ap (λ (ns : List Name). d.name ∷ ns) (declared_same ds)

not_false : (b so : Bool) → so ≡ not b → so ≡ false → b ≡ false → ⊥
not_false false so is nope h = no (sym nope ∙ is)
  where
    no : false ≡ true → ⊥
    no e = cc
not_false true so is nope h = cc

not_true : (b so : Bool) → so ≡ not b → so ≡ true → b ≡ false
not_true false so is good = refl
not_true true so is good = cc

pub bases_no : (image : Image) (so : Bool) (ds : List NamedMode) → ds ≡ image.modes.bases → so ≡ not (has_repeat (declared_names ds)) → so ≡ false → IsTrue false ↔ NamesStand (image_of image)
bases_no image so ds same is nope = refuse_by (λ (once : has_repeat (declared_names ds) ≡ false). not_false (has_repeat (declared_names ds)) so is nope once)
    (λ s. ap has_repeat (ap declared_names same ∙ sym (declared_same image.modes.bases)) ∙ s.bases_once)

pub vars_no : (image : Image) (so : Bool) (ds : List NamedMode) → ds ≡ image.modes.vars → so ≡ not (has_repeat (declared_names ds)) → so ≡ false → IsTrue false ↔ NamesStand (image_of image)
vars_no image so ds same is nope = refuse_by (λ (once : has_repeat (declared_names ds) ≡ false). not_false (has_repeat (declared_names ds)) so is nope once)
    (λ s. ap has_repeat (ap declared_names same ∙ sym (declared_same image.modes.vars)) ∙ s.vars_once)

pub once_of : (ds es : List NamedMode) (so : Bool) → ds ≡ es → so ≡ not (has_repeat (declared_names ds)) → so ≡ true → has_repeat (names_of (map named_of es)) ≡ false
once_of ds es so same is good = ap has_repeat (declared_same es ∙ ap declared_names (sym same)) ∙ not_true (has_repeat (declared_names ds)) so is good

pub all_by : {E : Type 0} (r : Result Bool E) (image : Image) (vars : List Name) → vars ≡ image.code.vars → has_repeat (names_of (image_of image).bases) ≡ false → has_repeat (names_of (image_of image).vars) ≡ false
    → IfOk r (λ so. IsTrue so ↔ AllByRecursion (StandsOnce vars (main_names image.code.bodies)) (declared_names image.modes.vars)) → IfOk r (λ so. IsTrue so ↔ NamesStand (image_of image))
all_by r image vars same bases once h =
    last_by r
    (λ (all : AllByRecursion (StandsOnce vars (main_names image.code.bodies)) (declared_names image.modes.vars)). record {
      bases_once = bases;
      vars_once = once;
      stand = subst (λ (ns : List Name). AllByRecursion (StandsOnce image.code.vars (main_names image.code.bodies)) ns) (sym (declared_same image.modes.vars)) (subst (λ (vs : List Name). AllByRecursion (StandsOnce vs (main_names image.code.bodies)) (declared_names image.modes.vars)) same all);
    })
    (λ (s : NamesStand (image_of image)). subst (λ (vs : List Name). AllByRecursion (StandsOnce vs (main_names image.code.bodies)) (declared_names image.modes.vars)) (sym same) (subst (λ (ns : List Name). AllByRecursion (StandsOnce image.code.vars (main_names image.code.bodies)) ns) (declared_same image.modes.vars) s.stand))
    h

-- ---- heights and tables

pub heights_by : {V : Type 0} (found : Option V) (items : V → List ℕ) (steps : List plain.Step) → MatchOption found ((hs : List ℕ) → HeightsFall steps hs → ⊥) (λ v. HeightsFall steps (items v)) → IsTrue (is_some found) ↔ HasHeights steps
heights_by (Some v) items steps h = ((λ is. (items v, h)), λ has. refl)
heights_by None items steps h = ((λ is. cc), λ has. absurd (h has.0 has.1))

pub table_by : {E : Type 0} (r : Result Bool E) (bodies : List plain.Body) (steps : List plain.Step) → IfOk r (λ so. HasShapes so bodies steps) → IfOk r (λ so. IsTrue so ↔ HasTable bodies steps)
table_by (Ok true) bodies steps h = ((λ is. h), λ has. refl)
table_by (Ok false) bodies steps h = ((λ is. cc), λ has. absurd (h has.0 has.1))
table_by (Err e) bodies steps h = tt

pub heights_so : {V : Type 0} (found : Option V) (items : V → List ℕ) (steps : List plain.Step) (so : Bool) → so ≡ is_some found → MatchOption found ((hs : List ℕ) → HeightsFall steps hs → ⊥) (λ v. HeightsFall steps (items v)) → IsTrue so ↔ HasHeights steps
heights_so found items steps so is h = subst (λ (b : Bool). IsTrue b ↔ HasHeights steps) (sym is) (heights_by found items steps h)

-- ---- a part

-- what the test of takes tells in an image
pub takes_tell : (i : format.Image) (n : ℕ) (b : Body) (table : List Bool) (so : Bool) → TellsTakes so (declared_of i) i.code.vars n b table → (n ≡ 0 → TellsDeclared (declared_of i) (Some b) table) → Differ (own_variables n b.parameters b.names) → StepsFit (length i.code.vars) (length b.parameters + length b.names) b.steps
    → IsTrue so ↔ TakesLast (declared_of i) n (plain_body (map Global i.code.vars) n b)
takes_tell i n b table so tells declares differ fits = tells (only_main i) declares differ fits

pub last_part : {E : Type 0} (r : Result Bool E) (c : Code) (declared : List Variable) (n : ℕ) (b : Body) → (length b.steps < 2 ^ 32) × (length b.parameters + length b.names < 2 ^ 32) → IsClosed c n b → Differ (own_variables n b.parameters b.names) → TakesLast declared n (plain_body (map Global c.vars) n b) → HasHeights (plain_body (map Global c.vars) n b).steps
    → IfOk r (λ so. IsTrue so ↔ HasTable (plain_code c).bodies (plain_body (map Global c.vars) n b).steps) → IfOk r (λ so. IsTrue so ↔ SoundPart c declared n b)
last_part r c declared n b few closed differ last falls h = last_by r (λ table. record { few = few; closed = closed; differ = differ; takes = last; falls = falls; shapes = table }) (λ (part : SoundPart c declared n b). part.shapes) h

-- ---- what was found

pub none_of : {V : Type 0} (P : Type 0) (Q : V → Type 0) (o : Option V) → o ≡ None → MatchOption o P Q → P
none_of P Q None is h = h
none_of P Q (Some v) is h = cc

pub some_of : {V : Type 0} (P : Type 0) (Q : V → Type 0) (o : Option V) (v : V) → o ≡ Some v → MatchOption o P Q → Q v
some_of P Q o v is h = subst (λ p. MatchOption p P Q) is h

pub not_so : {P : Type 0} (so : Bool) → IsTrue so ↔ P → so ≡ false → P → ⊥
not_so so tells nope p = no (sym nope ∙ tells.1 p)
  where
    no : false ≡ true → ⊥
    no h = cc

pub own_found_by : (image : Image) (vars : List Name) (ds : List NamedMode) (own : List Name) → vars ≡ image.code.vars → ds ≡ image.modes.vars → own ≡ own_after vars [] (declared_names ds) → own ≡ with_all_main [] (declared_of (image_of image))
own_found_by image vars ds own same all is = own_found image vars own same (is ∙ ap (λ (es : List NamedMode). own_after vars [] (declared_names es)) all)

-- ---- all bodies

pub table_of_body : (declared : List Variable) (bs cs : List Body) (n : ℕ) (b : Body) (table : List Bool) → bs ≡ cs → slice_get bs n ≡ Some b → TellsDeclared declared (slice_get cs 0) table → n ≡ 0 → TellsDeclared declared (Some b) table
table_of_body declared bs cs n b table same is tells first =
    subst (λ (o : Option Body). TellsDeclared declared o table) (ap (λ (xs : List Body). slice_get xs 0) (sym same) ∙ ap (slice_get bs) (sym first) ∙ is) tells

pub one_more : (c : Code) (declared : List Variable) (bs : List Body) (n : ℕ) (b : Body) → slice_get bs n ≡ Some b → SoundPart c declared n b → ((k : ℕ) (d : Body) → k < n → slice_get bs k ≡ Some d → SoundPart c declared k d) → (k : ℕ) (d : Body) → k < n + 1 → slice_get bs k ≡ Some d → SoundPart c declared k d
one_more c declared bs n b is part before k d less there = elim (cases_eq k n) [
  | inl same ↦ (
      let one : b ≡ d = some_is (sym is ∙ ap (slice_get bs) (sym same) ∙ there) in
      subst (λ (j : ℕ). SoundPart c declared j d) (sym same) (subst (λ (e : Body). SoundPart c declared n e) one part)
      )
  | inr other ↦ before k d (omega (arith, less)) there
]
  where
    some_is : Some b ≡ Some d → b ≡ d
    some_is h = cc

pub all_through : (c : Code) (declared : List Variable) (bs : List Body) (n : ℕ) → bs ≡ c.bodies → length bs ≤ n → ((k : ℕ) (d : Body) → k < n → slice_get bs k ≡ Some d → SoundPart c declared k d) → IsTrue true ↔ SoundParts c declared
all_through c declared bs n same past all = (
  λ is k d there. (let here : slice_get bs k ≡ Some d = ap (λ (xs : List Body). slice_get xs k) same ∙ there in all k d (omega (arith, past, within bs k d here)) here),
  λ parts. refl,
)
  where
    within : (xs : List Body) (k : ℕ) (d : Body) → slice_get xs k ≡ Some d → k < length xs
    within [] k d h = cc
    within (x ∷ xs) zero d h = omega arith
    within (x ∷ xs) (suc k) d h = let less : k < length xs = within xs k d h in omega (arith, less)

-- ---- the main body

pub bare_some : (bs : List Body) (b : Body) (so : Bool) → Some b ≡ slice_get bs 0 → so ≡ is_none b.parameters → so ≡ is_bare bs
bare_some [] b so h is = cc
bare_some (d ∷ bs) b so h is = let same : b ≡ d = cc in is ∙ ap (λ (e : Body). is_none e.parameters) same

pub bare_none : (bs : List Body) → None ≡ slice_get bs 0 → true ≡ is_bare bs
bare_none [] h = refl
bare_none (d ∷ bs) h = cc

pub main_some : (bs : List Body) (b : Body) (ns : List OwnName) → Some b ≡ slice_get bs 0 → ns ≡ b.names → ns ≡ main_names bs
main_some [] b ns h is = cc
main_some (d ∷ bs) b ns h is = let same : b ≡ d = cc in is ∙ ap (λ (e : Body). e.names) same

pub main_none : (bs : List Body) → None ≡ slice_get bs 0 → [] ≡ main_names bs
main_none [] h = refl
main_none (d ∷ bs) h = cc

pub stand_by : {E : Type 0} (r : Result Bool E) (vars : List Name) (ns ms : List OwnName) (ds es : List NamedMode) → ns ≡ ms → ds ≡ es → IfOk r (λ so. IsTrue so ↔ AllByRecursion (StandsOnce vars ns) (declared_names ds)) → IfOk r (λ so. IsTrue so ↔ AllByRecursion (StandsOnce vars ms) (declared_names es))
stand_by r vars ns ms ds es one two h = subst (λ (xs : List OwnName). IfOk r (λ so. IsTrue so ↔ AllByRecursion (StandsOnce vars xs) (declared_names es))) one (subst (λ (xs : List NamedMode). IfOk r (λ so. IsTrue so ↔ AllByRecursion (StandsOnce vars ns) (declared_names xs))) two h)

-- ---- names that differ

pub differ_of : (vs ws : List Name) → vs ≡ ws → Differ (map Global vs) → Differ (map Global ws)
differ_of vs ws same d = subst (λ (xs : List Name). Differ (map Global xs)) same d

pub names_none : (image : Image) (vs : List Name) → vs ≡ image.code.vars → (Differ (map Global vs) → ⊥) → SoundNames (image_of image) → ⊥
names_none image vs same none s = none (differ_of image.code.vars vs (sym same) s.differ)

pub names_some : {V E : Type 0} (r : Result (Option V) E) (image : Image) → Differ (map Global image.code.vars) → (Q : V → Type 0)
    → IfOk r (λ found. MatchOption found (NamesStand (image_of image) → ⊥) (λ v. NamesStand (image_of image) × Q v)) → IfOk r (λ found. MatchOption found (SoundNames (image_of image) → ⊥) (λ v. SoundNames (image_of image) × Q v))
names_some (Ok None) image differ Q h = λ s. h s.names
names_some (Ok (Some v)) image differ Q h = (record { differ = differ; names = h.0 }, h.1)
names_some (Err e) image differ Q h = tt

pub none_by : (ps : List Param) (so : Bool) → IsTrue so ↔ (ps ≡ []) → so ≡ is_none ps
none_by [] so h = h.1 refl
none_by (p ∷ ps) true h = absurd (no (h.0 refl))
  where
    no : (p ∷ ps) ≡ [] → ⊥
    no e = cc
none_by (p ∷ ps) false h = refl
