-- Steps that were marked are those of the marked body.
use Rattle.std.proofs.Common.{◌≡◌, ◌∙◌, ◌<◌, ◌+◌, inl, inr, ℕ, zero, suc, Bool, true, false, List, [], ◌∷◌, map, length, get_or, slice_set, Option, Some, None, refl, sym, ap, subst, arith}
use Rattle.std.proofs.lemmas.List.{length-append, length-map}
use Rattle.std.specs.Prelude.{slice_get, cond, ◌&&◌, not}
use Rattle.std.specs.Option.{option_map}
use Rattle.setl_tree.specs.declared.tree.Param.{Param}
use Rattle.setl_model_runs.specs.Variable.{Variable, Global}
use Rattle.setl_code.specs.declared.code.OwnName.{OwnName}
use Rattle.setl_code.specs.declared.code.OwnName.TheVariants as name
use Rattle.setl_code.specs.declared.code.Code.{Code}
use Rattle.setl_code.specs.Names.{is_among}
use Rattle.std.proofs.lemmas.Bool.{cases_eq}
use Rattle.setl_code.specs.declared.code.Slot.TheVariants as slot
use Rattle.setl_code.specs.declared.code.Instr.{Instr}
use Rattle.setl_code.specs.declared.code.Instr.TheVariants as i
use Rattle.setl_code.specs.declared.code.Step.{Step}
use Rattle.setl_code.specs.declared.code.Body.{Body}
use Rattle.setl_code.specs.Code as plain
use Rattle.setl_code.specs.Plain.{own_variables, variable_at, Variables, plain_instr, plain_step, plain_body, plain_bodies, plain_code}
use Rattle.setl_code.specs.MayRun.{InstrFits, StepsFit, BodiesFit, Differ, MayRun}
use Rattle.setl_code.specs.Sound.{may_take}
use Rattle.setl_code_marked.specs.Marked.{Marks, MarksStep, MarksBody, MarksBodies, Marked}
use Rattle.setl_live_reads.specs.declared.node.Node.{Node}
use Rattle.setl_live_reads.specs.declared.node.Access.TheVariants.{Read}
use Rattle.setl_live_reads.specs.Paths.{IsRight}
use Rattle.setl_live_reads.specs.Paths as nodes
use Rattle.setl_live.specs.Nodes.{access, node, handed, MayTake, marked, marked_step, AllMarked, BodyMarked, refused_in, BodyBecomes}
use Rattle.setl_live.specs.Slots.{OnlyMain, TellsDeclared}
use Rattle.setl_live.proofs.Paths.{mapped_from, mapped_to, fits_at, to_nodes, from_nodes}

get_mapped : {A B : Type 0} (f : A → B) (xs : List A) (at : ℕ) → slice_get (map f xs) at ≡ option_map f (slice_get xs at)
get_mapped f [] at = refl
get_mapped f (x ∷ xs) zero = refl
get_mapped f (x ∷ xs) (suc at) = get_mapped f xs at

pub own_count : (n : ℕ) (ps : List Param) (names : List OwnName) → length (own_variables n ps names) ≡ length ps + length names
own_count n ps names = simp (length-append, length-map)

pub globals_stay : (declared : List Variable) (vars : List (List ℕ)) (j : ℕ) → j < length vars → may_take declared (variable_at (map Global vars) j) ≡ false
globals_stay declared [] j within = absurd (omega arith)
globals_stay declared (v ∷ vars) zero within = refl
globals_stay declared (v ∷ vars) (suc j) within = let less : j < length vars = omega arith in globals_stay declared vars j less

-- the own slots that steps read are there
pub reads_fit : (g o : ℕ) (ss : List Step) → StepsFit g o ss → (at x : ℕ) (m : Node) → slice_get (map node ss) at ≡ Some m → m.access ≡ Read x → x < o
reads_fit g o ss fit at x m is reads =
    let from = mapped_from node ss at m is in
    go from.item.what (fits_at g o ss at from.item fit from.is) (ap (λ (n : Node). n.access) from.gives ∙ reads)
  where
    go : (what : Instr) → InstrFits g o what → access what ≡ Read x → x < o
    go (i.Load (slot.Own k)) fits e = let same : k ≡ x = cc in subst (λ (y : ℕ). y < o) same fits
    go (i.Load (slot.Global k)) fits e = cc
    go (i.Take (slot.Own k)) fits e = let same : k ≡ x = cc in subst (λ (y : ℕ). y < o) same fits
    go (i.Take (slot.Global k)) fits e = cc
    go (i.Store (slot.Own k)) fits e = cc
    go (i.Store (slot.Global k)) fits e = cc
    go (i.Alter a (slot.Own k) bs) fits e = let same : k ≡ x = cc in subst (λ (y : ℕ). y < o) same fits.0
    go (i.Alter a (slot.Global k) bs) fits e = cc
    go i.Return fits e = cc
    go what fits e = cc

module _ (declared : List Variable) (vars : List (List ℕ)) (n : ℕ) (b : Body) (differ : Differ (own_variables n b.parameters b.names)) (fit : StepsFit (length vars) (length (own_variables n b.parameters b.names)) b.steps) (may : List Bool) (table : MayTake declared n b may) (marks : List Bool) (right : (at x : ℕ) (m : Node) → slice_get (map node b.steps) at ≡ Some m → m.access ≡ Read x → IsRight (map node b.steps) (handed b.parameters) marks at x) where
  abbrev variables : Variables
  variables = record { global = map Global vars; own = own_variables n b.parameters b.names }

  abbrev whole : plain.Body
  whole = plain_body (map Global vars) n b

  next_is : (at : ℕ) → suc at ≡ at + 1
  next_is at = omega arith

  no : {p : Bool} → p ≡ false → p ≡ true → ⊥
  no h g = cc

  -- a load of an own slot
  load_marked : (at j : ℕ) → j < length (own_variables n b.parameters b.names) → IsRight (map node b.steps) (handed b.parameters) marks at j → Marks declared n whole at (plain.Load (variable_at (own_variables n b.parameters b.names) j)) (plain_instr variables (marked (get_or marks at false) may (i.Load (slot.Own j))))
  load_marked at j within known = go (get_or marks at false) (not (get_or may j false)) refl refl
    where
      go : (last is : Bool) → get_or marks at false ≡ last → not (get_or may j false) ≡ is → Marks declared n whole at (plain.Load (variable_at (own_variables n b.parameters b.names) j)) (plain_instr variables (cond (last && is) (i.Take (slot.Own j)) (i.Load (slot.Own j))))
      go true true last is = inl ((sym (table j within) ∙ is, λ read. known.0 last (subst (λ (a : ℕ). nodes.ReadLater (map node b.steps) (handed b.parameters) j a) (next_is at) (to_nodes vars n b differ fit j within (suc at) read))), refl)
      go true false last is = inr (λ uses. no (sym (table j within) ∙ is) uses.0, refl)
      go false is last may_ = inr (λ uses. uses.1 (from_nodes vars n b differ fit j within (suc at) (subst (λ (a : ℕ). nodes.ReadLater (map node b.steps) (handed b.parameters) j a) (sym (next_is at)) (known.1 last))), refl)

  instr_marked : (at : ℕ) (s : Step) → slice_get b.steps at ≡ Some s → (what : Instr) → s.what ≡ what → InstrFits (length vars) (length (own_variables n b.parameters b.names)) what → Marks declared n whole at (plain_instr variables what) (plain_instr variables (marked (get_or marks at false) may what))
  instr_marked at s is (i.Load (slot.Own j)) e fits = load_marked at j fits (right at j (node s) (mapped_to node b.steps at s is) (ap access e))
  instr_marked at s is (i.Load (slot.Global j)) e fits = inr (λ uses. no (globals_stay declared vars j fits) uses.0, refl)
  instr_marked at s is what e fits = inr (λ uses. uses, refl)

  pub body_marked : (ss : List Step) → AllMarked marks may b.steps ss → MarksBody declared n whole (plain_body (map Global vars) n (record b { steps = ss }))
  body_marked ss all = record {
    rest = refl;
    steps = λ at.
        subst (λ (p : Option plain.Step). MarksStep declared n whole at p (slice_get (map (plain_step variables) ss) at)) (sym (get_mapped (plain_step variables) b.steps at))
        (subst (λ (p : Option plain.Step). MarksStep declared n whole at (option_map (plain_step variables) (slice_get b.steps at)) p) (sym (get_mapped (plain_step variables) ss at ∙ ap (option_map (plain_step variables)) (all at)))
        (go at (slice_get b.steps at) refl));
  }
    where
      go : (at : ℕ) (o : Option Step) → slice_get b.steps at ≡ o → MarksStep declared n whole at (option_map (plain_step variables) o) (option_map (plain_step variables) (option_map (marked_step (get_or marks at false) may) o))
      go at None is = tt
      go at (Some s) is = (refl, instr_marked at s is s.what refl (fits_at _ _ b.steps at s fit is))

-- ---- what fits still does

pub all_fit : (g o : ℕ) (ss : List Step) → ((at : ℕ) (s : Step) → slice_get ss at ≡ Some s → InstrFits g o s.what) → StepsFit g o ss
all_fit g o [] h = tt
all_fit g o (s ∷ ss) h = (h 0 s refl, all_fit g o ss (λ at t is. h (suc at) t is))

marked_fits : (g o : ℕ) (last : Bool) (may : List Bool) (what : Instr) → InstrFits g o what → InstrFits g o (marked last may what)
marked_fits g o last may (i.Load (slot.Own k)) fits = go (last && not (get_or may k false))
  where
    go : (b : Bool) → InstrFits g o (cond b (i.Take (slot.Own k)) (i.Load (slot.Own k)))
    go true = fits
    go false = fits
marked_fits g o last may (i.Load (slot.Global k)) fits = fits
marked_fits g o last may what fits = fits

pub steps_fit_still : (g o : ℕ) (marks may : List Bool) (before after : List Step) → AllMarked marks may before after → StepsFit g o before → StepsFit g o after
steps_fit_still g o marks may before after all fit = all_fit g o after (λ at s is. go at s (slice_get before at) refl (sym (all at) ∙ is))
  where
    go : (at : ℕ) (s : Step) (p : Option Step) → slice_get before at ≡ p → option_map (marked_step (get_or marks at false) may) p ≡ Some s → InstrFits g o s.what
    go at s None is h = cc
    go at s (Some t) is h =
        let same : marked_step (get_or marks at false) may t ≡ s = cc in
        subst (λ (u : Step). InstrFits g o u.what) same (marked_fits g o (get_or marks at false) may t.what (fits_at g o before at t fit is))

-- ---- all bodies

-- the body at a place fits
pub body_fits : (g n m : ℕ) (bs : List Body) (k : ℕ) (b : Body) → m ≡ n + k → BodiesFit g n bs → slice_get bs k ≡ Some b → Differ (own_variables m b.parameters b.names) × StepsFit g (length b.parameters + length b.names) b.steps
body_fits g n m [] k b at fit is = cc
body_fits g n m (c ∷ bs) zero b at fit is =
    let same : c ≡ b = cc in
    let here : n ≡ m = omega arith in
    subst (λ (d : Body). Differ (own_variables m d.parameters d.names) × StepsFit g (length d.parameters + length d.names) d.steps) same
    (subst (λ (j : ℕ). Differ (own_variables j c.parameters c.names)) here fit.0, fit.1)
body_fits g n m (c ∷ bs) (suc k) b at fit is = body_fits g (suc n) m bs k b (omega arith) fit.2 is

pub bodies_fit : (g n : ℕ) (bs : List Body) → ((k m : ℕ) (b : Body) → m ≡ n + k → slice_get bs k ≡ Some b → Differ (own_variables m b.parameters b.names) × StepsFit g (length b.parameters + length b.names) b.steps) → BodiesFit g n bs
bodies_fit g n [] h = tt
bodies_fit g n (b ∷ bs) h = let here = h 0 n b (omega arith) refl in (here.0, here.1, bodies_fit g (suc n) bs (λ k m d at is. h (suc k) m d (omega arith) is))

pub get_plain : (vars : List Variable) (n m : ℕ) (bs : List Body) (k : ℕ) → m ≡ n + k → slice_get (plain_bodies vars n bs) k ≡ option_map (plain_body vars m) (slice_get bs k)
get_plain vars n m [] k at = refl
get_plain vars n m (b ∷ bs) zero at = let here : n ≡ m = omega arith in ap (λ (j : ℕ). Some (plain_body vars j b)) here
get_plain vars n m (b ∷ bs) (suc k) at = get_plain vars (suc n) m bs k (omega arith)

pub set_same : {A : Type 0} (xs : List A) (i : ℕ) (y : A) → i < length xs → slice_get (slice_set xs i y) i ≡ Some y
set_same [] i y within = absurd (omega arith)
set_same (x ∷ xs) zero y within = refl
set_same (x ∷ xs) (suc i) y within = let less : i < length xs = omega arith in set_same xs i y less

pub set_other : {A : Type 0} (xs : List A) (i k : ℕ) (y : A) → (k ≡ i → ⊥) → slice_get (slice_set xs i y) k ≡ slice_get xs k
set_other [] i k y other = refl
set_other (x ∷ xs) zero zero y other = absurd (other refl)
set_other (x ∷ xs) zero (suc k) y other = refl
set_other (x ∷ xs) (suc i) zero y other = refl
set_other (x ∷ xs) (suc i) (suc k) y other = set_other xs i k y (λ same. other (ap suc same))

-- one body more
pub one_more : (table : List Bool) (old now : List Body) (n : ℕ) (b d : Body) → n < length now → slice_get now n ≡ Some b → slice_get now n ≡ slice_get old n → BodyMarked (refused_in table n) b d → ((k : ℕ) → k < n → BodyBecomes (refused_in table k) (slice_get old k) (slice_get now k)) → (k : ℕ) → k < n + 1 → BodyBecomes (refused_in table k) (slice_get old k) (slice_get (slice_set now n d) k)
one_more table old now n b d within is rest marked done k small =
    elim (cases_eq k n) [
      | inl same ↦ subst (λ (j : ℕ). BodyBecomes (refused_in table j) (slice_get old j) (slice_get (slice_set now n d) j)) (sym same)
          (subst (λ (o : Option Body). BodyBecomes (refused_in table n) o (slice_get (slice_set now n d) n)) (sym is ∙ rest)
          (subst (λ (o : Option Body). BodyBecomes (refused_in table n) (Some b) o) (sym (set_same now n d within)) marked))
      | inr other ↦ (let less : k < n = omega arith in subst (λ (o : Option Body). BodyBecomes (refused_in table k) (slice_get old k) o) (sym (set_other now n k d other)) (done k less))
    ]

-- ---- the whole code

-- a variable of a body's own may be taken where it isn't declared
own_may : (declared : List Variable) (n : ℕ) (ps : List Param) (names : List OwnName) (k : ℕ) → may_take declared (variable_at (own_variables n ps names) k) ≡ not (is_among declared (variable_at (own_variables n ps names) k))
own_may declared n [] [] k = refl
own_may declared n [] (name.Body x ∷ names) zero = refl
own_may declared n [] (name.Former f x ∷ names) zero = refl
own_may declared n [] (m ∷ names) (suc k) = own_may declared n [] names k
own_may declared n (p ∷ ps) names zero = refl
own_may declared n (p ∷ ps) names (suc k) = own_may declared n ps names k

none_declared : (declared : List Variable) → OnlyMain declared → (n : ℕ) (ps : List Param) (names : List OwnName) (k : ℕ) → is_among declared (variable_at (own_variables (suc n) ps names) k) ≡ false
none_declared declared only n [] [] k = only.formers 0 []
none_declared declared only n [] (name.Body x ∷ names) zero = only.procedures n x
none_declared declared only n [] (name.Former f x ∷ names) zero = only.formers f x
none_declared declared only n [] (m ∷ names) (suc k) = none_declared declared only n [] names k
none_declared declared only n (p ∷ ps) names zero = only.procedures n p.name
none_declared declared only n (p ∷ ps) names (suc k) = none_declared declared only n ps names k

pub table_right : (declared : List Variable) → OnlyMain declared → (table : List Bool) (n : ℕ) (b : Body) → (n ≡ 0 → TellsDeclared declared (Some b) table) → MayTake declared n b (refused_in table n)
table_right declared only table zero b tells k within = ap not (tells refl k within) ∙ sym (own_may declared 0 b.parameters b.names k)
table_right declared only table (suc n) b tells k within = ap not (sym (none_declared declared only n b.parameters b.names k)) ∙ sym (own_may declared (suc n) b.parameters b.names k)

module _ (c : Code) (table : List Bool) (new : List Body) (may : MayRun c) (becomes : (n : ℕ) → BodyBecomes (refused_in table n) (slice_get c.bodies n) (slice_get new n)) where
  abbrev m : Code
  m = record c { bodies = new }

  zero_plus : (n : ℕ) → n ≡ 0 + n
  zero_plus n = omega arith

  fit : (k : ℕ) (b : Body) → slice_get c.bodies k ≡ Some b → Differ (own_variables k b.parameters b.names) × StepsFit (length c.vars) (length b.parameters + length b.names) b.steps
  fit k b is = body_fits (length c.vars) 0 k c.bodies k b (zero_plus k) may.1 is

  pub marked_may_run : MayRun m
  marked_may_run = (may.0, bodies_fit (length c.vars) 0 new (λ k n d at is. (let here : n ≡ k = omega arith in subst (λ (j : ℕ). Differ (own_variables j d.parameters d.names) × StepsFit (length c.vars) (length d.parameters + length d.names) d.steps) (sym here) (go k (slice_get c.bodies k) (slice_get new k) refl (becomes k) d is))))
    where
      go : (k : ℕ) (o p : Option Body) → slice_get c.bodies k ≡ o → BodyBecomes (refused_in table k) o p → (d : Body) → p ≡ Some d → Differ (own_variables k d.parameters d.names) × StepsFit (length c.vars) (length d.parameters + length d.names) d.steps
      go k None None e h d is = cc
      go k None (Some x) e h d is = absurd h
      go k (Some b) None e h d is = absurd h
      go k (Some b) (Some x) e h d is =
          let same : x ≡ d = cc in
          let here = fit k b e in
          subst (λ (y : Body). Differ (own_variables k y.parameters y.names) × StepsFit (length c.vars) (length y.parameters + length y.names) y.steps) same
          (moved x.parameters x.names h.parameters h.names here.0 (h.fits (length c.vars) here.1))
        where
          moved : (ps : List Param) (names : List OwnName) → ps ≡ b.parameters → names ≡ b.names → Differ (own_variables k b.parameters b.names) → StepsFit (length c.vars) (length b.parameters + length b.names) x.steps → Differ (own_variables k ps names) × StepsFit (length c.vars) (length ps + length names) x.steps
          moved ps names e1 e2 h1 h2 = rw (e1, e2) (h1, h2)

  pub marked_code : (declared : List Variable) → OnlyMain declared → TellsDeclared declared (slice_get c.bodies 0) table → Marked declared (plain_code c) (plain_code m)
  marked_code declared only tells = record {
    vars = refl;
    bodies = λ n.
        subst (λ (o : Option plain.Body). MarksBodies declared n o (slice_get (plain_bodies (map Global c.vars) 0 new) n)) (sym (get_plain (map Global c.vars) 0 n c.bodies n (zero_plus n)))
        (subst (λ (o : Option plain.Body). MarksBodies declared n (option_map (plain_body (map Global c.vars) n) (slice_get c.bodies n)) o) (sym (get_plain (map Global c.vars) 0 n new n (zero_plus n)))
        (go n (slice_get c.bodies n) (slice_get new n) refl (becomes n)));
  }
    where
      go : (n : ℕ) (o p : Option Body) → slice_get c.bodies n ≡ o → BodyBecomes (refused_in table n) o p → MarksBodies declared n (option_map (plain_body (map Global c.vars) n) o) (option_map (plain_body (map Global c.vars) n) p)
      go n None None e h = tt
      go n None (Some x) e h = absurd h
      go n (Some b) None e h = absurd h
      go n (Some b) (Some x) e h =
          let here = fit n b e in
          h.marked declared c.vars n here.0 here.1 (table_right declared only table n b (λ first. subst (λ (o : Option Body). TellsDeclared declared o table) (ap (slice_get c.bodies) (sym first) ∙ e) tells))
