-- Calls and selections.
use Rattle.std.proofs.Common.{◌≡◌, ℕ, suc, Bool, true, false, cond, List, [], ◌∷◌, ◌++◌, map, Option, Some, None, option_map, refl, sym, ap, subst, bytes_eq}
use Rattle.setl_tree.specs.declared.tree.Param.{Param}
use Rattle.setl_tree.specs.declared.tree.Passing.{Passing}
use Rattle.setl_tree.specs.declared.tree.Passing.TheVariants as pa
use Rattle.setl_tree.specs.declared.tree.Proc.{Proc}
use Rattle.setl_names.specs.Names.{Name as Word}
use Rattle.setl_names.specs.Places.{Place}
use Rattle.setl_names.specs.Procedures.{params_of, found_from, found_procedure}
use Rattle.setl_names.specs.Occurrences as n
use Rattle.setl_names.specs.Occurrences.{Standing}
use Rattle.setl_operators_table.specs.declared.Operator.TheVariants.{Get, Images}
use Rattle.setl_operators_table.specs.declared.Operator.{Operator}
use Rattle.setl_operators_table.specs.Operators.{TakesOperands}
use Rattle.setl_program.specs.Program.{Expr, Arguments, rd_argument, wr_argument, rw_argument, round_selector, brace_selector}
use Rattle.setl_program.specs.Formed.{PassedAs}
use Rattle.setl_program.specs.Lists.{arguments_of}
use Rattle.setl_program.specs.Scope.{Scope, procedure_of}
use Rattle.setl_program.specs.ProgramOf.{parameter_of}
use Rattle.setl_program.specs.Expressions as q
use Rattle.setl_program_laws.proofs.Kept.{ArgumentFits, ArgumentsFit, CallFits, Kept, first, second}
use Rattle.setl_program_laws.proofs.Fine.{Context, Within, variable_fine, Fine, FineArguments, FineOption, exprs_fine, fine_apply, fine_two, fine_call}
use Rattle.setl_program_laws.proofs.Agreeing.{Makes, Agree, AllAgree, AgreeOption, AgreeLists, FineBefore, AgreeBehind, AllBehind}
use Rattle.setl_program_laws.proofs.Parts.{listed_fine, optional_fine, named_fine}

-- ---- procedures

pub params_found : (n : ℕ) (procs : List Proc) (f : Word) (k : ℕ) (ps : List Param) → found_from n procs f ≡ Some (k, ps) → params_of procs f ≡ Some ps
params_found n [] f k ps h = cc
params_found n (p ∷ procs) f k ps h = by (bytes_eq f p.name) h (params_found (suc n) procs f k ps)
  where
    by : (b : Bool) → cond b (Some (n, p.params)) (found_from (suc n) procs f) ≡ Some (k, ps) → (found_from (suc n) procs f ≡ Some (k, ps) → params_of procs f ≡ Some ps) → cond b (Some p.params) (params_of procs f) ≡ Some ps
    by true g later = ap (option_map (λ (r : ℕ × List Param). r.1)) g
    by false g later = later g

-- what stands in a call fits its parameters
pub fitting : (procs : List Proc) (f : Word) (as_ : List n.Part) (p : Place) (at : ℕ) (ps : List Param) → found_procedure procs f ≡ Some (at, ps) → Kept procs (n.application f as_ p) → ArgumentsFit ps (n.arguments as_ p)
fitting procs f as_ p at ps found k = subst (λ o. CallFits o (n.arguments as_ p)) (params_found 0 procs f at ps found) k.all.0

-- the list of a round selector that stands behind no name
pub loose_kept : (procs : List Proc) (as_ : List n.Part) (p : Place) → Kept procs (n.loose_list as_ p) → Kept procs (n.all_parts as_ p)
loose_kept procs [] p k = record { all = tt }
loose_kept procs (a ∷ as_) p k = k

-- ---- arguments

module _ (c : Context) where
  -- arguments that are fine, one for each parameter
  record Passes (ps : List Param) (all : Arguments) : Type 0 where
    pub passed : PassedAs (map parameter_of ps) all
    pub fine : FineArguments c all

module _ {c : Context} where
  value_passes : (pr : Param) (ps : List Param) {e : Expr} {rest : Arguments} → pr.passing ≡ pa.Rd → Fine c e → Passes c ps rest → Passes c (pr ∷ ps) (rd_argument e rest)
  value_passes pr ps is h g = record { passed = (is, g.passed); fine = record { formed = (h.formed, g.fine.formed); placed = (h.placed, g.fine.placed) } }

  wr_passes : (pr : Param) (ps : List Param) (o : Option Word) (x : q.Part) (p : Place) (s : Scope) (m : ℕ) {rest : Arguments} → pr.passing ≡ pa.Wr → ArgumentFits pa.Wr (n.argument_named o p) → Within c s → Passes c ps rest → Passes c (pr ∷ ps) ((q.variable_argument wr_argument o x s m).0 rest)
  wr_passes pr ps None x p s m is fits w g = absurd fits
  wr_passes pr ps (Some y) x p s m is fits w g =
      let h = variable_fine y w in
      record { passed = (is, g.passed); fine = record { formed = (h.formed, g.fine.formed); placed = (h.placed, g.fine.placed) } }

  rw_passes : (pr : Param) (ps : List Param) (o : Option Word) (x : q.Part) (p : Place) (s : Scope) (m : ℕ) {rest : Arguments} → pr.passing ≡ pa.Rw → ArgumentFits pa.Rw (n.argument_named o p) → Within c s → Passes c ps rest → Passes c (pr ∷ ps) ((q.variable_argument rw_argument o x s m).0 rest)
  rw_passes pr ps None x p s m is fits w g = absurd fits
  rw_passes pr ps (Some y) x p s m is fits w g =
      let h = variable_fine y w in
      record { passed = (is, g.passed); fine = record { formed = (h.formed, g.fine.formed); placed = (h.placed, g.fine.placed) } }

  argument_passes : (way : Passing) (pr : Param) (ps : List Param) (a : n.Part) (x : q.Part) (p : Place) (s : Scope) (m : ℕ) {rest : Arguments} → pr.passing ≡ way → Agree c a x → ArgumentFits way (n.argument_named a.name p) → Kept c.procs (a.standing p) → Within c s → Passes c ps rest → Passes c (pr ∷ ps) ((q.argument way x s m).0 rest)
  argument_passes pa.Rd pr ps a x p s m is h fits k w g = value_passes pr ps is (h.term.at p k s w m) g
  argument_passes pa.Wr pr ps a x p s m is h fits k w g = wr_passes pr ps x.name x p s m is (subst (λ o. ArgumentFits pa.Wr (n.argument_named o p)) h.name fits) w g
  argument_passes pa.Rw pr ps a x p s m is h fits k w g = rw_passes pr ps x.name x p s m is (subst (λ o. ArgumentFits pa.Rw (n.argument_named o p)) h.name fits) w g

  arguments_pass : (ps : List Param) (as_ : List n.Part) (xs : List q.Part) → AllAgree c as_ xs → (p : Place) → ArgumentsFit ps (n.arguments as_ p) → Kept c.procs (n.all_parts as_ p) → (s : Scope) → Within c s → (m : ℕ) → Passes c ps (arguments_of (q.arguments ps xs s m).0)
  arguments_pass [] [] [] h p fits k s w m = record { passed = tt; fine = record { formed = tt; placed = tt } }
  arguments_pass (pr ∷ ps) (a ∷ as_) (x ∷ xs) h p fits k s w m =
      argument_passes pr.passing pr ps a x p s m refl h.0 fits.0 (first (a.standing p) (n.all_parts as_ p) k) w
      (arguments_pass ps as_ xs h.1 p fits.1 (second (a.standing p) (n.all_parts as_ p) k) s w _)
  arguments_pass [] (a ∷ as_) (x ∷ xs) h p fits k s w m = absurd fits
  arguments_pass (pr ∷ ps) [] [] h p fits k s w m = absurd fits
  arguments_pass ps [] (x ∷ xs) h p fits k s w m = absurd h
  arguments_pass ps (a ∷ as_) [] h p fits k s w m = absurd h

  call_fine : (f : Word) (at : ℕ) (ps : List Param) → found_procedure c.procs f ≡ Some (at, ps) → (as_ : List n.Part) (xs : List q.Part) → AllAgree c as_ xs → (p : Place) → ArgumentsFit ps (n.arguments as_ p) → Kept c.procs (n.all_parts as_ p) → (s : Scope) → Within c s → (m : ℕ) → Fine c (q.call at ps xs s m).0
  call_fine f at ps found as_ xs h p fits k s w m =
      let all = arguments_pass ps as_ xs h p fits k s w m in
      fine_call (c.passes f at ps found _ all.passed) all.fine

  -- a call of what is found
  pub found_call_fine : (f : Word) (at : ℕ) (ps : List Param) → found_procedure c.procs f ≡ Some (at, ps) → (as_ : List n.Part) (xs : List q.Part) → AllAgree c as_ xs → (p : Place) → Kept c.procs (n.applied f as_ p) → (s : Scope) → Within c s → (m : ℕ) → Fine c (q.call at ps xs s m).0
  found_call_fine f at ps found as_ xs h p k s w m =
      call_fine f at ps found as_ xs h p (fitting c.procs f as_ p at ps found (first (n.application f as_ p) (n.all_parts as_ p) k)) (second (n.application f as_ p) (n.all_parts as_ p) k) s w m

  -- ---- selectors

  at_list_fine : (f : Operator) → TakesOperands f 2 → (as_ : List n.Part) (xs : List q.Part) → AllAgree c as_ xs → (e : Expr) → Fine c e → Makes c (Fine c) (n.all_parts as_) (q.at_list f xs e)
  at_list_fine f takes as_ xs h e g = record { at = λ p k s w m. fine_two takes g ((listed_fine as_ xs h).at p k s w m) }

  bound_added : (e i : Expr) (j : Option Expr) → Fine c e → Fine c i → FineOption c j → Fine c (q.with_bound e i j)
  bound_added e i None f g h = fine_two refl f g
  bound_added e i (Some j) f g h = fine_apply refl (exprs_fine (e ∷ i ∷ j ∷ []) (f, (g, (h, tt))))

  round_before : {e : Expr} → Fine c e → FineBefore c (round_selector e)
  round_before h = record { before = λ rest g. record { formed = (h.formed, g.formed); placed = (h.placed, g.placed) } }

  brace_before : {e : Expr} → Fine c e → FineBefore c (brace_selector e)
  brace_before h = record { before = λ rest g. record { formed = (h.formed, g.formed); placed = (h.placed, g.placed) } }

  pub round_agrees : (as_ : List n.Part) (xs : List q.Part) → AllAgree c as_ xs → AgreeBehind c (record { standing = n.loose_list as_; list = Some as_ }) (record { applied = q.at_list Get xs; selector = q.round_list xs; list = Some xs })
  round_agrees as_ xs h = record {
    applied = λ e g. record { at = λ p k s w m. (at_list_fine Get refl as_ xs h e g).at p (loose_kept c.procs as_ p k) s w m };
    selector = record { at = λ p k s w m. round_before ((listed_fine as_ xs h).at p (loose_kept c.procs as_ p k) s w m) };
    list = h;
  }

  pub braces_agree : (as_ : List n.Part) (xs : List q.Part) → AllAgree c as_ xs → AgreeBehind c (record { standing = n.all_parts as_; list = None }) (record { applied = q.at_list Images xs; selector = q.brace_list xs; list = None })
  braces_agree as_ xs h = record {
    applied = λ e g. at_list_fine Images refl as_ xs h e g;
    selector = record { at = λ p k s w m. brace_before ((listed_fine as_ xs h).at p k s w m) };
    list = tt;
  }

  pub slice_agrees : (a : n.Part) (b : Option n.Part) (x : q.Part) (y : Option q.Part) → Agree c a x → AgreeOption c b y → AgreeBehind c (record { standing = λ p. a.standing p ++ n.optional_part b p; list = None }) (record { applied = q.at_bounds x y; selector = q.round_part x; list = None })
  slice_agrees a b x y h i = record {
    applied = λ e g. record {
      at = λ p k s w m.
          bound_added e _ _ g (h.term.at p (first (a.standing p) (n.optional_part b p) k) s w m) ((optional_fine b y i).at p (second (a.standing p) (n.optional_part b p) k) s w _);
    };
    selector = record { at = λ p k s w m. round_before (h.term.at p (first (a.standing p) (n.optional_part b p) k) s w m) };
    list = tt;
  }

  -- ---- selections

  selected_fine : (as_ : List n.Behind) (bs : List q.Behind) → AllBehind c as_ bs → (e : Expr) → Fine c e → Makes c (Fine c) (n.all_behind as_) (q.selected e bs)
  selected_fine [] [] h e g = record { at = λ p k s w m. g }
  selected_fine (a ∷ as_) (b ∷ bs) h e g = record {
    at = λ p k s w m.
        (selected_fine as_ bs h.1 (b.applied e s m).0 ((h.0.applied e g).at p (first (a.standing p) (n.all_behind as_ p) k) s w m)).at p (second (a.standing p) (n.all_behind as_ p) k) s w _;
  }
  selected_fine [] (b ∷ bs) h e g = absurd h
  selected_fine (a ∷ as_) [] h e g = absurd h

  application_fine : (found : Option (ℕ × List Param)) (f : Word) → found_procedure c.procs f ≡ found → (as_ : List n.Part) (xs : List q.Part) → AllAgree c as_ xs → Makes c (Fine c) (n.applied f as_) (q.application found f xs)
  application_fine None f is as_ xs h = record {
    at = λ p k s w m. (at_list_fine Get refl as_ xs h (q.named f s) (named_fine f s w)).at p (second (n.application f as_ p) (n.all_parts as_ p) k) s w m;
  }
  application_fine (Some r) f is as_ xs h = record { at = λ p k s w m. found_call_fine f r.0 r.1 is as_ xs h p k s w m }

  -- a name and the selectors behind it
  by_list_fine : (f : Word) (l : Option (List n.Part)) (r : Option (List q.Part)) → AgreeLists c l r → (b : n.Behind) (d : q.Behind) (as_ : List n.Behind) (ds : List q.Behind) → AgreeBehind c b d → AllBehind c as_ ds → (st : Standing) → Makes c (Fine c) (λ p. n.by (Some f) l st b.standing p ++ n.all_behind as_ p) (q.by_list f r (d ∷ ds) ds)
  by_list_fine f None None g b d as_ ds h i st = record {
    at = λ p k s w m.
        let before = second (st p) (b.standing p) (first (st p ++ b.standing p) (n.all_behind as_ p) k) in
        (selected_fine as_ ds i _ ((h.applied (q.named f s) (named_fine f s w)).at p before s w m)).at p (second (st p ++ b.standing p) (n.all_behind as_ p) k) s w _;
  }
  by_list_fine f (Some as2) (Some xs) g b d as_ ds h i st = record {
    at = λ p k s w m.
        let here = (application_fine (procedure_of s f) f (ap (λ procs. found_procedure procs f) (sym w.procedures)) as2 xs g).at p (first (n.applied f as2 p) (n.all_behind as_ p) k) s w m in
        (selected_fine as_ ds i _ here).at p (second (n.applied f as2 p) (n.all_behind as_ p) k) s w _;
  }
  by_list_fine f None (Some xs) g b d as_ ds h i st = absurd g
  by_list_fine f (Some as2) None g b d as_ ds h i st = absurd g

  by_name_fine : (o : Option Word) (a : n.Part) (x : q.Part) → Agree c a x → (b : n.Behind) (d : q.Behind) (as_ : List n.Behind) (ds : List q.Behind) → AgreeBehind c b d → AllBehind c as_ ds → Makes c (Fine c) (λ p. n.by o b.list a.standing b.standing p ++ n.all_behind as_ p) (q.by_name o x (d ∷ ds))
  by_name_fine None a x g b d as_ ds h i = record {
    at = λ p k s w m.
        let both = first (a.standing p ++ b.standing p) (n.all_behind as_ p) k in
        (selected_fine as_ ds i _ ((h.applied (x.term s m).0 (g.term.at p (first (a.standing p) (b.standing p) both) s w m)).at p (second (a.standing p) (b.standing p) both) s w _)).at p (second (a.standing p ++ b.standing p) (n.all_behind as_ p) k) s w _;
  }
  by_name_fine (Some f) a x g b d as_ ds h i = by_list_fine f b.list d.list h.list b d as_ ds h i a.standing

  alone : (o : Option Word) (a : n.Part) (x : q.Part) → Agree c a x → Makes c (Fine c) a.standing (q.by_name o x [])
  alone None a x h = record { at = λ p k s w m. h.term.at p k s w m }
  alone (Some f) a x h = record { at = λ p k s w m. named_fine f s w }

  pub selection_fine : (a : n.Part) (x : q.Part) (as_ : List n.Behind) (bs : List q.Behind) → Agree c a x → AllBehind c as_ bs → Makes c (Fine c) (n.selected a as_) (q.selection x bs)
  selection_fine a x [] [] g h = alone x.name a x g
  selection_fine a x (b ∷ as_) (d ∷ ds) g h = subst (λ o. Makes c (Fine c) (λ p. n.by o b.list a.standing b.standing p ++ n.all_behind as_ p) (q.by_name x.name x (d ∷ ds))) (sym g.name) (by_name_fine x.name a x g b d as_ ds h.0 h.1)
  selection_fine a x [] (d ∷ ds) g h = absurd h
  selection_fine a x (b ∷ as_) [] g h = absurd h
