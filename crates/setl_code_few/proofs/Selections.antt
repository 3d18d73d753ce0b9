-- Calls and selections are no larger than their tokens are many.
use Rattle.std.proofs.Common.{◌≤◌, ℕ, suc, ◌+◌, List, [], ◌∷◌, Option, Some, None, arith}
use Rattle.setl_tree.specs.declared.tree.Param.{Param}
use Rattle.setl_tree.specs.declared.tree.Passing.{Passing}
use Rattle.setl_tree.specs.declared.tree.Passing.TheVariants as pa
use Rattle.setl_names.specs.Names.{Name as Word}
use Rattle.setl_model_runs.specs.Variable.{Variable}
use Rattle.setl_operators_table.specs.declared.Operator.{Operator}
use Rattle.setl_operators_table.specs.declared.Operator.TheVariants.{Get, Images}
use Rattle.setl_program.specs.Program.{Expr, Call, Arguments, no_argument, rd_argument, wr_argument, rw_argument, Selectors, round_selector, brace_selector}
use Rattle.setl_program.specs.Lists.{arguments_of}
use Rattle.setl_program.specs.Scope.{Scope, procedure_of}
use Rattle.setl_program.specs.Expressions as q
use Rattle.setl_code_few.proofs.Sizes.{passed, values, selectors_size}
use Rattle.setl_code_few.proofs.Languages.{Each, Maybe}
use Rattle.setl_code_few.proofs.Parts.{Sized, SizedOption, sized_within, sized_two, sized_apply, more_sizes, no_sizes, PartIn, listed_in, optional_in}

-- ---- arguments

pub record SizedArguments (all : Arguments) (n : ℕ) : Type 0 where
  pub at_most : values all + passed all ≤ n

-- an argument, before the others
pub record ArgumentIn (a : Arguments → Arguments) (n : ℕ) : Type 0 where
  pub before : (rest : Arguments) → values (a rest) + passed (a rest) ≤ n + (values rest + passed rest)

value_before : {e : Expr} {n : ℕ} → Sized e n → ArgumentIn (rd_argument e) n
value_before h = let less = h.at_most in record { before = λ rest. omega (arith, less) }

wr_before : {y : Variable} {n : ℕ} → 1 ≤ n → ArgumentIn (wr_argument y) n
wr_before some = record { before = λ rest. omega (arith, some) }

rw_before : {y : Variable} {n : ℕ} → 1 ≤ n → ArgumentIn (rw_argument y) n
rw_before some = record { before = λ rest. omega (arith, some) }

argument_value : (x : q.Part) {n : ℕ} → PartIn x n → (s : Scope) (m : ℕ) → ArgumentIn (q.value_argument x s m).0 n
argument_value x h s m = value_before (h.term s m)

argument_wr : (o : Option Word) (x : q.Part) {n : ℕ} → PartIn x n → (s : Scope) (m : ℕ) → ArgumentIn (q.variable_argument wr_argument o x s m).0 n
argument_wr None x h s m = argument_value x h s m
argument_wr (Some y) x h s m = wr_before h.some

argument_rw : (o : Option Word) (x : q.Part) {n : ℕ} → PartIn x n → (s : Scope) (m : ℕ) → ArgumentIn (q.variable_argument rw_argument o x s m).0 n
argument_rw None x h s m = argument_value x h s m
argument_rw (Some y) x h s m = rw_before h.some

argument_in : (way : Passing) (x : q.Part) {n : ℕ} → PartIn x n → (s : Scope) (m : ℕ) → ArgumentIn (q.argument way x s m).0 n
argument_in pa.Rd x h s m = argument_value x h s m
argument_in pa.Wr x h s m = argument_wr x.name x h s m
argument_in pa.Rw x h s m = argument_rw x.name x h s m

more_arguments : (a : Arguments → Arguments) (rest : Arguments) {i j n : ℕ} → ArgumentIn a i → SizedArguments rest j → i + j ≤ n → SizedArguments (a rest) n
more_arguments a rest g h le =
    let here = g.before rest in
    let later = h.at_most in
    record { at_most = omega (arith, here, later, le) }

no_arguments : {n : ℕ} → SizedArguments no_argument n
no_arguments = record { at_most = omega arith }

arguments_in : (ps : List Param) (xs : List q.Part) (n : ℕ) → Each PartIn xs n → (s : Scope) (m : ℕ) → SizedArguments (arguments_of (q.arguments ps xs s m).0) n
arguments_in [] [] n h s m = no_arguments
arguments_in [] (x ∷ xs) n h s m = no_arguments
arguments_in (p ∷ ps) [] n h s m = no_arguments
arguments_in (p ∷ ps) (x ∷ xs) n h s m =
    let here = q.argument p.passing x s m in
    more_arguments here.0 (arguments_of (q.arguments ps xs s here.1).0) (argument_in p.passing x h.first s m) (arguments_in ps xs h.two h.second s here.1) h.fits

sized_call : {f : ℕ} {all : Arguments} {n : ℕ} → SizedArguments all n → Sized (Call f all) (suc n)
sized_call h = let less = h.at_most in record { at_most = omega (arith, less) }

pub call_in : (place : ℕ) (ps : List Param) (xs : List q.Part) (n : ℕ) → Each PartIn xs n → (s : Scope) (m : ℕ) → Sized (q.call place ps xs s m).0 (suc n)
call_in place ps xs n h s m = sized_call (arguments_in ps xs n h s m)

-- ---- selectors

-- a selector of a place, before the others
pub record SelectorIn (f : Selectors → Selectors) (n : ℕ) : Type 0 where
  pub before : (rest : Selectors) → selectors_size (f rest) ≤ n + selectors_size rest

-- the list of a selector in round brackets, beside these two tokens
pub record ListIn (xs : List q.Part) (n : ℕ) : Type 0 where
  pub less : ℕ
  pub fits : suc (suc less) ≤ n
  pub all : Each PartIn xs less

pub record BehindIn (x : q.Behind) (n : ℕ) : Type 0 where
  pub applied : (e : Expr) (k : ℕ) → Sized e k → (s : Scope) (m : ℕ) → Sized (x.applied e s m).0 (k + n)
  pub selector : (s : Scope) (m : ℕ) → SelectorIn (x.selector s m).0 n
  pub list : Maybe ListIn x.list n

at_list_in : (f : Operator) (xs : List q.Part) (i : ℕ) {n : ℕ} → Each PartIn xs i → suc (suc i) ≤ n → (e : Expr) (k : ℕ) → Sized e k → (s : Scope) (m : ℕ) → Sized (q.at_list f xs e s m).0 (k + n)
at_list_in f xs i h le e k g s m = sized_within (sized_two g (listed_in xs i h s m)) (omega (arith, le))

round_before : {e : Expr} {i n : ℕ} → Sized e i → i ≤ n → SelectorIn (round_selector e) n
round_before h le = let less = h.at_most in record { before = λ rest. omega (arith, less, le) }

brace_before : {e : Expr} {i n : ℕ} → Sized e i → i ≤ n → SelectorIn (brace_selector e) n
brace_before h le = let less = h.at_most in record { before = λ rest. omega (arith, less, le) }

pub round_in : (xs : List q.Part) (i : ℕ) {n : ℕ} → Each PartIn xs i → suc (suc i) ≤ n → BehindIn (record { applied = q.at_list Get xs; selector = q.round_list xs; list = Some xs }) n
round_in xs i h le = record {
  applied = λ e k g s m. at_list_in Get xs i h le e k g s m;
  selector = λ s m. round_before (listed_in xs i h s m) (omega (arith, le));
  list = record { less = i; fits = le; all = h };
}

pub braces_in : (xs : List q.Part) (i : ℕ) {n : ℕ} → Each PartIn xs i → suc (suc i) ≤ n → BehindIn (record { applied = q.at_list Images xs; selector = q.brace_list xs; list = None }) n
braces_in xs i h le = record {
  applied = λ e k g s m. at_list_in Images xs i h le e k g s m;
  selector = λ s m. brace_before (listed_in xs i h s m) (omega (arith, le));
  list = tt;
}

bounded_in : (e i : Expr) (j : Option Expr) {k a b : ℕ} → Sized e k → Sized i a → SizedOption j b → Sized (q.with_bound e i j) (k + suc (a + b))
bounded_in e i None g h l = sized_within (sized_two g h) (omega arith)
bounded_in e i (Some j) {k} {a} {b} g h l =
    let third : Sized j b = record { at_most = l.at_most } in
    sized_within (sized_apply {es = e ∷ i ∷ j ∷ []} (more_sizes g (more_sizes h (more_sizes third no_sizes)))) (omega arith)

pub slice_in : (x : q.Part) (y : Option q.Part) (j : ℕ) {i n : ℕ} → PartIn x i → Maybe PartIn y j → suc (i + j) ≤ n → BehindIn (record { applied = q.at_bounds x y; selector = q.round_part x; list = None }) n
slice_in x y j g h le = record {
  applied = λ e k l s m. sized_within (bounded_in e (x.term s m).0 (q.optional y s (x.term s m).1).0 l (g.term s m) (optional_in y j h s _)) (omega (arith, le));
  selector = λ s m. round_before (g.term s m) (omega (arith, le));
  list = tt;
}

-- ---- selections

selected_in : (bs : List q.Behind) (n : ℕ) → Each BehindIn bs n → (e : Expr) (k : ℕ) → Sized e k → (s : Scope) (m : ℕ) → Sized (q.selected e bs s m).0 (k + n)
selected_in [] n h e k g s m = sized_within g (omega arith)
selected_in (b ∷ bs) n h e k g s m =
    let both = h.fits in
    sized_within (selected_in bs h.two h.second (b.applied e s m).0 (k + h.one) (h.first.applied e k g s m) s _) (omega (arith, both))

named_sized : (f : Word) (s : Scope) → Sized (q.named f s) 1
named_sized f s = record { at_most = omega arith }

application_in : (found : Option (ℕ × List Param)) (f : Word) (xs : List q.Part) (i n : ℕ) → Each PartIn xs i → suc (suc i) ≤ n → (s : Scope) (m : ℕ) → Sized (q.application found f xs s m).0 (1 + n)
application_in None f xs i n h le s m = at_list_in Get xs i h le (q.named f s) 1 (named_sized f s) s m
application_in (Some p) f xs i n h le s m = sized_within (call_in p.0 p.1 xs i h s m) (omega (arith, le))

-- a name with a selector and others
by_list_in : (f : Word) (list : Option (List q.Part)) (b : q.Behind) (others : List q.Behind) (i j n : ℕ) → Maybe ListIn list i → Each BehindIn (b ∷ others) n → i + j ≤ n → Each BehindIn others j → (s : Scope) (m : ℕ) → Sized (q.by_list f list (b ∷ others) others s m).0 (1 + n)
by_list_in f None b others i j n l h le g s m = selected_in (b ∷ others) n h (q.named f s) 1 (named_sized f s) s m
by_list_in f (Some xs) b others i j n l h le g s m =
    sized_within (selected_in others j g (q.application (procedure_of s f) f xs s m).0 (1 + i) (application_in (procedure_of s f) f xs l.less i l.all l.fits s m) s _) (omega (arith, le))

name_selection_in : (f : Word) (bs : List q.Behind) (n : ℕ) → Each BehindIn bs n → (s : Scope) (m : ℕ) → Sized (q.name_selection f bs s m).0 (1 + n)
name_selection_in f [] n h s m = sized_within (named_sized f s) (omega arith)
name_selection_in f (b ∷ bs) n h s m = by_list_in f b.list b bs h.one h.two n h.first.list h h.fits h.second s m

by_name_in : (o : Option Word) (x : q.Part) (bs : List q.Behind) (k n : ℕ) → PartIn x k → Each BehindIn bs n → (s : Scope) (m : ℕ) → Sized (q.by_name o x bs s m).0 (k + n)
by_name_in None x bs k n g h s m = selected_in bs n h (x.term s m).0 k (g.term s m) s _
by_name_in (Some f) x bs k n g h s m = let some = g.some in sized_within (name_selection_in f bs n h s m) (omega (arith, some))

pub selection_in : (x : q.Part) (bs : List q.Behind) (k n : ℕ) → PartIn x k → Each BehindIn bs n → (s : Scope) (m : ℕ) → Sized (q.selection x bs s m).0 (k + n)
selection_in x bs k n g h s m = by_name_in x.name x bs k n g h s m
