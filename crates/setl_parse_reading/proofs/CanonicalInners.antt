-- The canonical tokens of what stands inside expressions derive it.
use Rattle.std.proofs.Common.{◌≡◌, ℕ, suc, ◌+◌, List, [], ◌∷◌, ◌++◌, map, Option, Some, None, refl, sym, subst, arith, inl, inr}
use Rattle.setl_tree.specs.declared.kind.Kind.{Kind}
use Rattle.setl_tree.specs.declared.kind.Kind.TheVariants as k
use Rattle.setl_tree.specs.declared.expr.Slot.{Slot}
use Rattle.setl_tree.specs.declared.expr.Slot.TheVariants as sl
use Rattle.setl_tree.specs.declared.expr.Bound.{Bound}
use Rattle.setl_tree.specs.declared.expr.Bound.TheVariants as bd
use Rattle.setl_tree.specs.declared.expr.Expr.{Expr}
use Rattle.setl_tree.specs.declared.expr.Inner.{Inner}
use Rattle.setl_tree.specs.declared.expr.Inner.TheVariants as inn
use Rattle.setl_tree.specs.declared.expr.Iter.{Iter}
use Rattle.setl_tree.specs.declared.expr.Iter.TheVariants as it
use Rattle.setl_tree.specs.Tokens.{Tokens}
use Rattle.setl_tree.specs.Lang.{Lang, Then}
use Rattle.setl_tree.specs.Lang as lang
use Rattle.setl_tree.specs.Expressions as x
use Rattle.setl_tree.specs.Expressions.{Inside}
use Rattle.setl_tree.specs.Canonical.{shown, sign, name_token, with_commas, as_operand, slot_tokens, pattern_tokens, bound_tokens, expr_tokens, inner_tokens, iter_tokens}
use Rattle.setl_parse_reading.proofs.Building.{last, Spells, seq, then_token, then_name, then_opening, ends, outside, AllOf, OfSome, from_optional, from_separated, from_listed, spells_several, spells_listed, all_to}
use Rattle.setl_parse_reading.proofs.ShownParts as parts
use Rattle.setl_parse_reading.proofs.ShownParts.{operand_item, behind_expr, optional_expr}
use Rattle.setl_parse_reading.proofs.CanonicalExpressions.{Canon, e12_l, to_7, whole_of, operand_of}

-- ---- what iterators bind

slot_good : (s : Slot) → x.slot (slot_tokens s) s
unfolding x.slot
slot_good (sl.Name y) = inl (then_name 0 y [] ends)
slot_good sl.Skip = inr (then_token (sign k.Minus) [] refl ends)

pub slot_spells : (s : Slot) → Spells (λ _. x.slot) (slot_tokens s) s
slot_spells s = record { from = 0; at = λ room le. slot_good s }

pattern_at : (m : ℕ) (slots : List Slot) → lang.separated x.slot (with_commas (map slot_tokens slots)) slots → x.pattern (suc m) (pattern_tokens slots) slots
unfolding x.pattern
pattern_at m slots s = then_opening m (sign k.LeftBracket) (with_commas (map slot_tokens slots) ++ sign k.RightBracket ∷ []) refl
    (seq (with_commas (map slot_tokens slots)) (sign k.RightBracket ∷ []) slots s (then_token (sign k.RightBracket) [] refl ends))

-- from any derivation of a pattern
pub pattern_good : (room : ℕ) (toks : Tokens) (slots : List Slot) → x.pattern room toks slots → Spells x.pattern (pattern_tokens slots) slots
unfolding x.pattern
pattern_good room toks slots s =
    let several = from_separated x.slot (λ s. Spells (λ _. x.slot) (slot_tokens s) s) (λ t a h. slot_spells a) s.second.front s.second.value s.second.first in
    let list = spells_several slot_tokens (λ _. x.slot) s.second.value several in
    subst (λ (z : List Slot). Spells x.pattern (pattern_tokens z) z) s.second.second.second.1
    (record { from = 1; at = outside (λ room. x.pattern room (pattern_tokens s.second.value) s.second.value) 0 (λ m le. pattern_at m s.second.value (list.at list.from (omega arith))) })

pub bound_good : (room : ℕ) (toks : Tokens) (b : Bound) → x.bound room toks b → Spells x.bound (bound_tokens b) b
unfolding x.bound
bound_good room toks b (inl s) = subst (λ (z : Bound). Spells x.bound (bound_tokens z) z) s.second.1 (record { from = 0; at = λ room le. inl (then_name 0 s.value [] ends) })
bound_good room toks b (inr s) =
    let p = pattern_good room s.front s.value s.first in
    subst (λ (z : Bound). Spells x.bound (bound_tokens z) z) s.second.1 (record { from = p.from; at = λ room le. inr (last bd.Pattern (pattern_tokens s.value) s.value (p.at room le)) })

-- ---- iterators

abbrev pub iter_l : ℕ → Tokens → Iter → Type 0
iter_l room = x.iter room (x.source room)

over_at : (room : ℕ) (b : Bound) (s : Expr) → x.bound room (bound_tokens b) b → e12_l room (as_operand (shown s)) s → iter_l room (bound_tokens b ++ sign k.In ∷ as_operand (shown s)) (it.Over b s)
unfolding x.iter x.source
over_at room b s bound source = inl (seq (bound_tokens b) (sign k.In ∷ as_operand (shown s)) b bound (then_token (sign k.In) (as_operand (shown s)) refl (last (λ s. it.Over b s) (as_operand (shown s)) s (to_7 room (as_operand (shown s)) s source))))

image_at : (m : ℕ) (y f z : List ℕ) → iter_l (suc m) (name_token y ∷ sign k.Equal ∷ name_token f ∷ sign k.LeftParen ∷ name_token z ∷ sign k.RightParen ∷ []) (it.Image y f z)
unfolding x.iter
image_at m y f z = inr (then_name 0 y (sign k.Equal ∷ name_token f ∷ sign k.LeftParen ∷ name_token z ∷ sign k.RightParen ∷ []) (then_token (sign k.Equal) (name_token f ∷ sign k.LeftParen ∷ name_token z ∷ sign k.RightParen ∷ []) refl
    (then_name 0 f (sign k.LeftParen ∷ name_token z ∷ sign k.RightParen ∷ []) (then_opening m (sign k.LeftParen) (name_token z ∷ sign k.RightParen ∷ []) refl (then_name 0 z (sign k.RightParen ∷ []) (then_token (sign k.RightParen) [] refl ends))))))

pub iter_good : (room : ℕ) (S : Lang Expr) → ((t : Tokens) (y : Expr) → S t y → Canon y) → (toks : Tokens) (i : Iter) → x.iter room S toks i → Spells iter_l (iter_tokens i) i
unfolding x.iter
iter_good room S canon toks i (inl s) =
    let source = s.second.second in
    let b = bound_good room s.front s.value s.first in
    let o = operand_of source.value (canon source.front source.value source.first) in
    let whole : Spells iter_l (bound_tokens s.value ++ sign k.In ∷ as_operand (shown source.value)) (it.Over s.value source.value) =
    record { from = b.from + o.from; at = λ room le. over_at room s.value source.value (b.at room (omega (arith, le))) (o.at room (omega (arith, le))) } in
    subst (λ (z : Iter). Spells iter_l (iter_tokens z) z) source.second.1 (subst (λ (t : Tokens). Spells iter_l t (it.Over s.value source.value)) (sym (parts.iter_over s.value source.value)) whole)
iter_good room S canon toks i (inr s) =
    let f = s.second.second in
    let z = f.second.second in
    let whole : Spells iter_l (name_token s.value ∷ sign k.Equal ∷ name_token f.value ∷ sign k.LeftParen ∷ name_token z.value ∷ sign k.RightParen ∷ []) (it.Image s.value f.value z.value) =
    record { from = 1; at = outside (λ room. iter_l room (name_token s.value ∷ sign k.Equal ∷ name_token f.value ∷ sign k.LeftParen ∷ name_token z.value ∷ sign k.RightParen ∷ []) (it.Image s.value f.value z.value)) 0 (λ m le. image_at m s.value f.value z.value) } in
    subst (λ (z : Iter). Spells iter_l (iter_tokens z) z) z.second.second.1 (subst (λ (t : Tokens). Spells iter_l t (it.Image s.value f.value z.value)) (sym (parts.iter_image s.value f.value z.value)) whole)

abbrev pub iters_l : ℕ → Tokens → List Iter → Type 0
iters_l room = x.iters room (x.source room)

pub iters_good : (room : ℕ) (S : Lang Expr) → ((t : Tokens) (y : Expr) → S t y → Canon y) → (toks : Tokens) (is : List Iter) → x.iters room S toks is → Spells iters_l (with_commas (map iter_tokens is)) is
unfolding x.iters
iters_good room S canon toks is s =
    let list = spells_several iter_tokens iter_l is (from_separated (x.iter room S) (λ i. Spells iter_l (iter_tokens i) i) (iter_good room S canon) toks is s) in
    record { from = list.from; at = list.at }

-- ---- optional and listed expressions

pub exprs_good : (xs : List Expr) → AllOf Canon xs → AllOf (λ y. Spells x.expr (expr_tokens y) y) xs
exprs_good xs all = all_to xs whole_of all

pub behind_good : (kind : Kind) (o : Option Expr) → OfSome Canon o → Spells (λ room. lang.optional (lang.◌>>◌ (lang.token kind) (x.expr room))) (behind_expr kind o) o
behind_good kind None c = record { from = 0; at = λ room le. refl }
behind_good kind (Some y) c = let w = whole_of y c in record { from = w.from; at = λ room le. then_token (sign kind) (expr_tokens y) refl (w.at room le) }

pub optional_good : (o : Option Expr) → OfSome Canon o → Spells (λ room. lang.optional (x.expr room)) (optional_expr o) o
optional_good None c = record { from = 0; at = λ room le. refl }
optional_good (Some y) c = let w = whole_of y c in record { from = w.from; at = λ room le. w.at room le }

-- ---- what stands inside braces and brackets

abbrev pub inner_l : ℕ → Tokens → Inner → Type 0
inner_l room = x.inner room (x.nested (suc room))

list_at : (m : ℕ) (xs : List Expr) (toks : Tokens) → lang.listed (x.expr m) toks xs → inner_l m toks (inn.List xs)
unfolding x.inner x.nested x.expr
list_at m xs toks s = inl (last inn.List toks xs s)

range_at : (m : ℕ) (a : Expr) (b : Option Expr) (c : Expr) → x.expr m (expr_tokens a) a → lang.optional (lang.◌>>◌ (lang.token k.Comma) (x.expr m)) (behind_expr k.Comma b) b → x.expr m (expr_tokens c) c
    → inner_l m (expr_tokens a ++ (behind_expr k.Comma b ++ sign k.Dots ∷ expr_tokens c)) (inn.Range a b c)
unfolding x.inner x.nested x.expr
range_at m a b c one two three = inr (inl (seq (expr_tokens a) (behind_expr k.Comma b ++ sign k.Dots ∷ expr_tokens c) a one (seq (behind_expr k.Comma b) (sign k.Dots ∷ expr_tokens c) b two
    (then_token (sign k.Dots) (expr_tokens c) refl (last (λ c. inn.Range a b c) (expr_tokens c) c three)))))

former_at : (m : ℕ) (y : Expr) (over : List Iter) (c : Option Expr) → x.expr m (expr_tokens y) y → iters_l m (with_commas (map iter_tokens over)) over → lang.optional (lang.◌>>◌ (lang.token k.Bar) (x.expr m)) (behind_expr k.Bar c) c
    → inner_l m (expr_tokens y ++ sign k.Colon ∷ (with_commas (map iter_tokens over) ++ behind_expr k.Bar c)) (inn.Former y over c)
unfolding x.inner x.nested x.expr x.source
former_at m y over c one two three = inr (inr (inl (seq (expr_tokens y) (sign k.Colon ∷ (with_commas (map iter_tokens over) ++ behind_expr k.Bar c)) y one (then_token (sign k.Colon) (with_commas (map iter_tokens over) ++ behind_expr k.Bar c) refl
    (seq (with_commas (map iter_tokens over)) (behind_expr k.Bar c) over two (last (λ c. inn.Former y over c) (behind_expr k.Bar c) c three))))))

filter_at : (m : ℕ) (b : Bound) (s c : Expr) → x.bound m (bound_tokens b) b → e12_l m (as_operand (shown s)) s → x.expr m (expr_tokens c) c
    → inner_l m (bound_tokens b ++ sign k.In ∷ (as_operand (shown s) ++ sign k.Bar ∷ expr_tokens c)) (inn.Filter b s c)
unfolding x.inner x.nested x.expr
filter_at m b s c one two three = inr (inr (inr (seq (bound_tokens b) (sign k.In ∷ (as_operand (shown s) ++ sign k.Bar ∷ expr_tokens c)) b one (then_token (sign k.In) (as_operand (shown s) ++ sign k.Bar ∷ expr_tokens c) refl
    (seq (as_operand (shown s)) (sign k.Bar ∷ expr_tokens c) s (to_7 m (as_operand (shown s)) s two) (then_token (sign k.Bar) (expr_tokens c) refl (last (λ c. inn.Filter b s c) (expr_tokens c) c three)))))))

-- an inside that is this one, and whose tokens are these
inner_is : (i j : Inner) (toks : Tokens) → j ≡ i → inner_tokens j ≡ toks → Spells inner_l toks j → Spells inner_l (inner_tokens i) i
inner_is i j toks same tokens s = subst (λ (z : Inner). Spells inner_l (inner_tokens z) z) same (subst (λ (t : Tokens). Spells inner_l t j) (sym tokens) s)

pub inner_good : (room : ℕ) (here : Inside) → ((t : Tokens) (y : Expr) → here.expr t y → Canon y) → ((t : Tokens) (y : Expr) → here.source t y → Canon y) → (toks : Tokens) (i : Inner) → x.inner room here toks i → Spells inner_l (inner_tokens i) i
unfolding x.inner
inner_good room here canon canon_source toks i (inl s) =
    let list = spells_listed expr_tokens x.expr s.value (exprs_good s.value (from_listed here.expr Canon canon s.front s.value s.first)) in
    inner_is i (inn.List s.value) (with_commas (map expr_tokens s.value)) s.second.1 (parts.inner_list s.value) (record { from = list.from; at = λ room le. list_at room s.value (with_commas (map expr_tokens s.value)) (list.at room le) })
inner_good room here canon canon_source toks i (inr (inl s)) =
    let b = s.second in
    let c = b.second.second in
    let one = whole_of s.value (canon s.front s.value s.first) in
    let two = behind_good k.Comma b.value (from_optional (lang.◌>>◌ (lang.token k.Comma) here.expr) Canon (λ t y h. canon h.back y h.second) b.front b.value b.first) in
    let three = whole_of c.value (canon c.front c.value c.first) in
    inner_is i (inn.Range s.value b.value c.value) (expr_tokens s.value ++ (behind_expr k.Comma b.value ++ sign k.Dots ∷ expr_tokens c.value)) c.second.1 (parts.inner_range s.value b.value c.value)
    (record { from = one.from + two.from + three.from; at = λ room le. range_at room s.value b.value c.value (one.at room (omega (arith, le))) (two.at room (omega (arith, le))) (three.at room (omega (arith, le))) })
inner_good room here canon canon_source toks i (inr (inr (inl s))) =
    let over = s.second.second in
    let c = over.second in
    let one = whole_of s.value (canon s.front s.value s.first) in
    let two = iters_good room here.source canon_source over.front over.value over.first in
    let three = behind_good k.Bar c.value (from_optional (lang.◌>>◌ (lang.token k.Bar) here.expr) Canon (λ t y h. canon h.back y h.second) c.front c.value c.first) in
    inner_is i (inn.Former s.value over.value c.value) (expr_tokens s.value ++ sign k.Colon ∷ (with_commas (map iter_tokens over.value) ++ behind_expr k.Bar c.value)) c.second.1 (parts.inner_former s.value over.value c.value)
    (record { from = one.from + two.from + three.from; at = λ room le. former_at room s.value over.value c.value (one.at room (omega (arith, le))) (two.at room (omega (arith, le))) (three.at room (omega (arith, le))) })
inner_good room here canon canon_source toks i (inr (inr (inr s))) =
    let source = s.second.second in
    let c = source.second.second in
    let one = bound_good room s.front s.value s.first in
    let two = operand_of source.value (canon_source source.front source.value source.first) in
    let three = whole_of c.value (canon c.front c.value c.first) in
    inner_is i (inn.Filter s.value source.value c.value) (bound_tokens s.value ++ sign k.In ∷ (as_operand (shown source.value) ++ sign k.Bar ∷ expr_tokens c.value)) c.second.1 (parts.inner_filter s.value source.value c.value)
    (record { from = one.from + two.from + three.from; at = λ room le. filter_at room s.value source.value c.value (one.at room (omega (arith, le))) (two.at room (omega (arith, le))) (three.at room (omega (arith, le))) })
