-- What the parts of an expression's tree become is no larger than their tokens are many.
use Rattle.std.proofs.Common.{◌≤◌, ℕ, suc, ◌+◌, List, [], ◌∷◌, map, length, Option, Some, None, arith}
use Rattle.setl_tree.specs.declared.expr.BinaryOp.{BinaryOp}
use Rattle.setl_tree.specs.declared.expr.Relation.{Relation}
use Rattle.setl_tree.specs.declared.expr.Prefix.{Prefix}
use Rattle.setl_tree.specs.declared.expr.Quantifier.{Quantifier as QuantifierWord}
use Rattle.setl_tree.specs.declared.expr.Slot.{Slot}
use Rattle.setl_tree.specs.declared.expr.Bound.{Bound}
use Rattle.setl_tree.specs.declared.expr.Bound.TheVariants as bd
use Rattle.setl_names.specs.Names.{Name as Word, with_names, in_order}
use Rattle.setl_names.specs.Occurrences.{names_of_bound}
use Rattle.setl_operators_table.specs.declared.Operator.{Operator}
use Rattle.setl_model_runs.specs.Variable.{Variable}
use Rattle.setl_program.specs.declared.kinds.Collection.{Collection}
use Rattle.setl_program.specs.declared.kinds.Connective.{Connective}
use Rattle.setl_program.specs.declared.kinds.Source.{Source}
use Rattle.setl_program.specs.Program.{Binding, Expr, Apply, Connect, Choose, Former, Selection, Quantified, Exprs}
use Rattle.setl_program.specs.Lists.{exprs_of, iterators_of, condition_of}
use Rattle.setl_program.specs.Numbered.{Numbered}
use Rattle.setl_program.specs.Scope.{Scope, in_former, bound_by, slot_variable, binding_of}
use Rattle.setl_program.specs.Operators.{one, two, updating, connective, joined, binary, quantifier}
use Rattle.setl_program.specs.Expressions as q
use Rattle.setl_code_few.proofs.Sizes.{binding_size, binds, size, sizes, inner, condition_size}
use Rattle.setl_code_few.proofs.Languages.{Beside, Each, Maybe}

-- ---- sizes of expressions and lists

pub record Sized (e : Expr) (n : ℕ) : Type 0 where
  pub at_most : size e ≤ n

-- all together
pub record Sizes (es : List Expr) (n : ℕ) : Type 0 where
  pub at_most : sizes (exprs_of es) ≤ n

pub record SizedOption (e : Option Expr) (n : ℕ) : Type 0 where
  pub at_most : condition_size (condition_of e) ≤ n

pub record SizedTurn (i : Binding × Exprs) (n : ℕ) : Type 0 where
  pub at_most : suc (binding_size i.0 + sizes i.1) ≤ n

pub record SizedTurns (is : List (Binding × Exprs)) (n : ℕ) : Type 0 where
  pub at_most : binds (iterators_of is) + inner (iterators_of is) ≤ n

pub no_option : {n : ℕ} → SizedOption None n
no_option = record { at_most = omega arith }

pub no_turns : {n : ℕ} → SizedTurns [] n
no_turns = record { at_most = omega arith }

pub sized_within : {e : Expr} {m n : ℕ} → Sized e m → m ≤ n → Sized e n
sized_within h le = let less = h.at_most in record { at_most = omega (arith, less, le) }

pub sizes_within : {es : List Expr} {m n : ℕ} → Sizes es m → m ≤ n → Sizes es n
sizes_within h le = let less = h.at_most in record { at_most = omega (arith, less, le) }

pub no_sizes : Sizes [] 0
no_sizes = record { at_most = omega arith }

pub more_sizes : {e : Expr} {es : List Expr} {a b : ℕ} → Sized e a → Sizes es b → Sizes (e ∷ es) (a + b)
more_sizes g h =
    let here = g.at_most in
    let later = h.at_most in
    record { at_most = omega (arith, here, later) }

pub sized_apply : {f : Operator} {es : List Expr} {n : ℕ} → Sizes es n → Sized (Apply f (exprs_of es)) (suc n)
sized_apply h = let less = h.at_most in record { at_most = omega (arith, less) }

sized_one : {f : Operator} {e : Expr} {n : ℕ} → Sized e n → Sized (one f e) (suc n)
sized_one h = let less = h.at_most in record { at_most = omega (arith, less) }

pub sized_two : {f : Operator} {a b : Expr} {i j : ℕ} → Sized a i → Sized b j → Sized (two f a b) (suc (i + j))
sized_two g h =
    let here = g.at_most in
    let later = h.at_most in
    record { at_most = omega (arith, here, later) }

sized_connect : {k : Connective} {a b : Expr} {i j : ℕ} → Sized a i → Sized b j → Sized (Connect k a b) (suc (i + j))
sized_connect g h =
    let here = g.at_most in
    let later = h.at_most in
    record { at_most = omega (arith, here, later) }

sized_joined : (k : Option Connective) (f : Operator) {a b : Expr} {i j : ℕ} → Sized a i → Sized b j → Sized (joined k f a b) (suc (i + j))
sized_joined None f g h = sized_two g h
sized_joined (Some k) f g h = sized_connect g h

sized_binary : (f : BinaryOp) {a b : Expr} {i j : ℕ} → Sized a i → Sized b j → Sized (binary f a b) (suc (i + j))
sized_binary f g h = sized_joined (connective f) (updating f) g h

sized_choose : {t a b : Expr} {i j k : ℕ} → Sized t i → Sized a j → Sized b k → Sized (Choose t a b) (suc (i + (j + k)))
sized_choose f g h =
    let test = f.at_most in
    let here = g.at_most in
    let later = h.at_most in
    record { at_most = omega (arith, test, here, later) }

-- ---- parts

-- what an expression becomes, also as the source of an iterator
pub record PartIn (x : q.Part) (n : ℕ) : Type 0 where
  pub term : (s : Scope) (m : ℕ) → Sized (x.term s m).0 n
  pub source : (s : Scope) (m : ℕ) → Sizes (x.source s m).0.1 n
  pub some : 1 ≤ n

-- the inside of braces or brackets, whose two tokens aren't counted
pub record InsideIn (x : q.Inside) (n : ℕ) : Type 0 where
  pub term : (k : Collection) (s : Scope) (m : ℕ) → Sized (x.term k s m).0 (suc n)
  pub source : (k : Collection) (s : Scope) (m : ℕ) → Sizes (x.source k s m).0.1 (suc n)

pub record TurnIn (x : q.Turn) (n : ℕ) : Type 0 where
  pub iterator : (former : Option ℕ) (s : Scope) (m : ℕ) → SizedTurn (x.iterator former s m).0 n

-- an operator and its right operand
abbrev pub OperandIn : BinaryOp × q.Part → ℕ → Type 0
OperandIn x n = Beside (PartIn x.1) n

pub part_within : {x : q.Part} {m n : ℕ} → PartIn x m → m ≤ n → PartIn x n
part_within h le =
    let some = h.some in
    record { term = λ s m. sized_within (h.term s m) le; source = λ s m. sizes_within (h.source s m) le; some = omega (arith, some, le) }

pub part_in : {t : Scope → Numbered Expr} {k n : ℕ} → ((s : Scope) (m : ℕ) → Sized (t s m).0 k) → k ≤ n → 1 ≤ n → PartIn (q.part_by t) n
part_in h le some = record {
  term = λ s m. sized_within (h s m) le;
  source = λ s m. sizes_within (more_sizes (h s m) no_sizes) (omega (arith, le));
  some = some;
}

pub inside_part : {x : q.Inside} (k : Collection) {i n : ℕ} → InsideIn x i → suc i ≤ n → PartIn (q.inside x k) n
inside_part k h le = record {
  term = λ s m. sized_within (h.term k s m) le;
  source = λ s m. sizes_within (h.source k s m) le;
  some = omega (arith, le);
}

pub inside_in : {t : Collection → Scope → Numbered Expr} {i n : ℕ} → ((k : Collection) (s : Scope) (m : ℕ) → Sized (t k s m).0 i) → i ≤ suc n → InsideIn (q.inside_by t) n
inside_in h le = record {
  term = λ k s m. sized_within (h k s m) le;
  source = λ k s m. sizes_within (more_sizes (h k s m) no_sizes) (omega (arith, le));
}

-- ---- lists of expressions

pub terms_in : (xs : List q.Part) (n : ℕ) → Each PartIn xs n → (s : Scope) (m : ℕ) → Sizes (q.terms xs s m).0 n
terms_in [] n h s m = sizes_within no_sizes (omega arith)
terms_in (x ∷ xs) n h s m = sizes_within (more_sizes (h.first.term s m) (terms_in xs h.two h.second s _)) h.fits

several_in : (es : List Expr) {n : ℕ} → Sizes es n → Sized (q.tuple_of_several es) (suc n)
several_in [] h = sized_apply {es = []} h
several_in (e ∷ []) h = let less = h.at_most in record { at_most = omega (arith, less) }
several_in (e ∷ f ∷ es) h = sized_apply {es = e ∷ f ∷ es} h

pub listed_in : (xs : List q.Part) (n : ℕ) → Each PartIn xs n → (s : Scope) (m : ℕ) → Sized (q.listed xs s m).0 (suc n)
listed_in xs n h s m = several_in (q.terms xs s m).0 (terms_in xs n h s m)

pub optional_in : (x : Option q.Part) (n : ℕ) → Maybe PartIn x n → (s : Scope) (m : ℕ) → SizedOption (q.optional x s m).0 n
optional_in None n h s m = no_option
optional_in (Some x) n h s m = let less = (h.term s m).at_most in record { at_most = less }

-- ---- operators

chain_on_in : (xs : List (BinaryOp × q.Part)) (n : ℕ) → Each OperandIn xs n → (e : Expr) (k : ℕ) → Sized e k → (s : Scope) (m : ℕ) → Sized (q.chain_on e xs s m).0 (k + n)
chain_on_in [] n h e k g s m = sized_within g (omega arith)
chain_on_in (x ∷ xs) n h e k g s m =
    let operand = h.first in
    let one_more = operand.fits in
    let both = h.fits in
    sized_within (chain_on_in xs h.two h.second (binary x.0 e (x.1.term s m).0) (suc (k + operand.less)) (sized_binary x.0 g (operand.part.term s m)) s _) (omega (arith, one_more, both))

pub chain_in : (x : q.Part) (i : ℕ) (xs : List (BinaryOp × q.Part)) (j : ℕ) → PartIn x i → Each OperandIn xs j → (s : Scope) (m : ℕ) → Sized (q.chain x xs s m).0 (i + j)
chain_in x i xs j g h s m = chain_on_in xs j h (x.term s m).0 i (g.term s m) s _

pub comparison_in : {x y : q.Part} {i j : ℕ} (r : Relation) → PartIn x i → PartIn y j → (s : Scope) (m : ℕ) → Sized (q.comparison x r y s m).0 (suc (i + j))
comparison_in r g h s m = sized_two (g.term s m) (h.term s _)

prefixes_in : (ps : List Prefix) (e : Expr) (n : ℕ) → Sized e n → Sized (q.prefixes ps e) (length ps + n)
prefixes_in [] e n h = sized_within h (omega arith)
prefixes_in (p ∷ ps) e n h = sized_within (sized_one (prefixes_in ps e n h)) (omega arith)

pub prefixed_in : (ps : List Prefix) (x : q.Part) (n : ℕ) → PartIn x n → (s : Scope) (m : ℕ) → Sized (q.prefixed ps x s m).0 (length ps + n)
prefixed_in ps x n h s m = prefixes_in ps (x.term s m).0 n (h.term s m)

pub choice_in : {x y z : q.Part} {i j k : ℕ} → PartIn x i → PartIn y j → PartIn z k → (s : Scope) (m : ℕ) → Sized (q.choice x y z s m).0 (suc (i + (j + k)))
choice_in f g h s m = sized_choose (f.term s m) (g.term s _) (h.term s _)

-- ---- iterators

slots_same : (v : Word → Variable) (slots : List Slot) → length (map (slot_variable v) slots) ≤ length slots
slots_same v [] = omega arith
slots_same v (x ∷ slots) = let later = slots_same v slots in omega (arith, later)

-- the size of what is bound
abbrev pub bound_size : Bound → ℕ
bound_size (bd.Name x) = 1
bound_size (bd.Pattern slots) = suc (length slots)

binding_in : (b : Bound) (k : Source) (v : Word → Variable) → binding_size (binding_of b k v) ≤ bound_size b
binding_in (bd.Name x) k v = omega arith
binding_in (bd.Pattern slots) k v = let same = slots_same v slots in omega (arith, same)

sized_over : {b : Binding} {es : List Expr} {i j n : ℕ} → binding_size b ≤ i → Sizes es j → suc (i + j) ≤ n → SizedTurn (b, exprs_of es) n
sized_over less h le = let all = h.at_most in record { at_most = omega (arith, less, all, le) }

pub over_in : (b : Bound) (x : q.Part) {j n : ℕ} → PartIn x j → suc (bound_size b + j) ≤ n → TurnIn (record { names = names_of_bound b; iterator = q.over b x }) n
over_in b x h le = record { iterator = λ former s m. sized_over (binding_in b (x.source s m).0.0 (bound_by former s)) (h.source s m) le }

pub image_in : (y f x : Word) {n : ℕ} → 4 ≤ n → TurnIn (record { names = y ∷ x ∷ []; iterator = q.image y f x }) n
image_in y f x le = record { iterator = λ former s m. record { at_most = omega (arith, le) } }

more_turns : {i : Binding × Exprs} {is : List (Binding × Exprs)} {a b n : ℕ} → SizedTurn i a → SizedTurns is b → a + b ≤ n → SizedTurns (i ∷ is) n
more_turns g h le =
    let here = g.at_most in
    let later = h.at_most in
    record { at_most = omega (arith, here, later, le) }

pub iterators_in : (ts : List q.Turn) (n : ℕ) → Each TurnIn ts n → (s : Scope) (m : ℕ) → SizedTurns (q.iterators ts s m).0 n
iterators_in [] n h s m = no_turns
iterators_in (t ∷ ts) n h s m = more_turns (h.first.iterator None s m) (iterators_in ts h.two h.second s _) h.fits

own_iterators_in : (f : ℕ) (seen : List Word) (ts : List q.Turn) (n : ℕ) → Each TurnIn ts n → (s : Scope) (m : ℕ) → SizedTurns (q.own_iterators f seen ts s m).0 n
own_iterators_in f seen [] n h s m = no_turns
own_iterators_in f seen (t ∷ ts) n h s m = more_turns (h.first.iterator (Some f) (in_former f seen s) m) (own_iterators_in f (with_names seen t.names) ts h.two h.second s _) h.fits

sized_quantified : (w : QuantifierWord) {is : List (Binding × Exprs)} {e : Expr} {i j : ℕ} → SizedTurns is i → Sized e j → Sized (Quantified (quantifier w) (iterators_of is) e) (suc (i + j))
sized_quantified w g h =
    let here = g.at_most in
    let later = h.at_most in
    record { at_most = omega (arith, here, later) }

pub quantified_in : (word : QuantifierWord) (ts : List q.Turn) (i : ℕ) (x : q.Part) {j : ℕ} → Each TurnIn ts i → PartIn x j → (s : Scope) (m : ℕ) → Sized (q.quantified word ts x s m).0 (suc (i + j))
quantified_in word ts i x g h s m = sized_quantified word (iterators_in ts i g s m) (h.term s _)

-- ---- braces and brackets

pub enumerated_in : (xs : List q.Part) (n : ℕ) → Each PartIn xs n → InsideIn (q.inside_by (q.enumerated xs)) n
enumerated_in xs n h = inside_in (λ k s m. sized_apply (terms_in xs n h s m)) (omega arith)

bounds_in : (a : Expr) (b : Option Expr) (d : Expr) {i j k : ℕ} → Sized a i → SizedOption b j → Sized d k → Sizes (q.bounds a b d) (i + (j + k))
bounds_in a None d f g h =
    let here = f.at_most in
    let later = h.at_most in
    record { at_most = omega (arith, here, later) }
bounds_in a (Some b) d f g h =
    let here = f.at_most in
    let next = g.at_most in
    let later = h.at_most in
    record { at_most = omega (arith, here, next, later) }

pub range_in : (x z : q.Part) (y : Option q.Part) (j : ℕ) {i k n : ℕ} → PartIn x i → Maybe PartIn y j → PartIn z k → i + (j + k) ≤ n → InsideIn (record { term = q.range x y z; source = q.source_range x y z }) n
range_in x z y j f g h le = record {
  term = λ k s m. sized_within (sized_apply (bounds_in _ _ _ (f.term s m) (optional_in y j g s _) (h.term s _))) (omega (arith, le));
  source = λ k s m. sizes_within (bounds_in _ _ _ (f.term s m) (optional_in y j g s _) (h.term s _)) (omega (arith, le));
}

sized_former : {k : Collection} {e : Expr} {is : List (Binding × Exprs)} {t : Option Expr} {i j l : ℕ} → Sized e i → SizedTurns is j → SizedOption t l → Sized (Former k e (iterators_of is) (condition_of t)) (suc (i + (j + l)))
sized_former f g h =
    let here = f.at_most in
    let next = g.at_most in
    let later = h.at_most in
    record { at_most = omega (arith, here, next, later) }

pub former_in : (x : q.Part) (ts : List q.Turn) (y : Option q.Part) (j k : ℕ) {i n : ℕ} → PartIn x i → Each TurnIn ts j → Maybe PartIn y k → i + (j + k) ≤ n → InsideIn (q.inside_by (q.former x ts y)) n
former_in x ts y j k f g h le = inside_in
    (λ c s m. sized_former (f.term (in_former (suc m) (in_order (q.names_of_turns ts)) s) (suc m)) (own_iterators_in (suc m) [] ts j g s _) (optional_in y k h (in_former (suc m) (in_order (q.names_of_turns ts)) s) _))
    (omega (arith, le))

sized_selection : {k : Collection} {b : Binding} {es : List Expr} {e : Expr} {i j l : ℕ} → binding_size b ≤ i → Sizes es j → Sized e l → Sized (Selection k b (exprs_of es) e) (suc (i + (j + l)))
sized_selection less g h =
    let here = g.at_most in
    let later = h.at_most in
    record { at_most = omega (arith, less, here, later) }

pub filter_in : (b : Bound) (x y : q.Part) {j k n : ℕ} → PartIn x j → PartIn y k → bound_size b + (j + k) ≤ n → InsideIn (q.inside_by (q.filter b x y)) n
filter_in b x y g h le = inside_in
    (λ c s m. sized_selection (binding_in b (x.source s (suc m)).0.0 (bound_by (Some (suc m)) s)) (g.source s (suc m)) (h.term (in_former (suc m) (in_order (names_of_bound b)) s) _))
    (omega (arith, le))
