use Rattle.std.specs.Prelude.{nat_lt}
use Rattle.std.proofs.Common.{◌≡◌, ◌∙◌, ◌<◌, [], ◌∷◌, ◌++◌, sym, ap, length, drop, reverse, arith}
use Rattle.std.proofs.lemmas.Bool.{lt-ltb}
use Rattle.std.proofs.lemmas.List.{length-reverse, length_push, reverse-append}
use Rattle.setl_trail.specs.Trail.{mark_count}
use Rattle.setl_store_environment.specs.Undo.{parts, contents_of, kept_contents, undone, cut}
use Rattle.setl_store_environment.proofs.Undoing.{none_kept, no_items, kept_counted}
use Rattle.setl_store_environment.proofs.Parts.{IsForgotten, forgotten_part}
use Rattle.setl_store_environment.proofs.environment.Environment.forget.Goals as goal
use Rattle.setl_store_environment.proofs.environment.Environment.forget.Goals.{After-drop-beside}

pub returns-in_default-clause-kept : goal.returns-in_default-clause-kept
returns-in_default-clause-kept g c =
    let t = c.self.inside in
    let before = no_items t.records.items _ t.records.ok.0 c.in_default.ensures.cases.0 in
    let after = no_items c.pop.new.self.items _ c.pop.new.self.ok.0 c.in_default.ensures.cases.1 in
    let q = parts t.slots t.operands t.activations t.members t.fields in
    let none = none_kept undone cut _ (cut t.base (contents_of q)) t.trail.items (reverse t.bases.items) in
    ap (λ ks. kept_contents q t.base (reverse t.bases.items) t.trail.items (reverse ks)) after ∙ none
    ∙ sym (ap (drop 1) (sym (ap (λ e. e.kept) c.self.view_is) ∙ ap (λ ks. kept_contents q t.base (reverse t.bases.items) t.trail.items (reverse ks)) before ∙ none))

pub returns-in_default-clause-some : goal.returns-in_default-clause-some
returns-in_default-clause-some g c =
    let t = c.self.inside in
    let before = no_items t.records.items _ t.records.ok.0 c.in_default.ensures.cases.0 in
    let q = parts t.slots t.operands t.activations t.members t.fields in
    sym (ap (λ l. nat_lt 0 (length l)) (sym (ap (λ e. e.kept) c.self.view_is) ∙ ap (λ ks. kept_contents q t.base (reverse t.bases.items) t.trail.items (reverse ks)) before ∙ none_kept undone cut _ (cut t.base (contents_of q)) t.trail.items (reverse t.bases.items)))

here : (g : _) (c : After-drop-beside g) → IsForgotten (parts c.self.inside.slots c.self.inside.operands c.self.inside.activations c.self.inside.members c.self.inside.fields) c.self.inside.clock c.self.inside.slot_stamps.items c.self.inside.operand_stamps.items c.self.inside.base c.lower-self-inside.result (reverse c.pop_base-older.new.bases.items) (reverse c.self.inside.bases.items) c.self.inside.trail.items c.forget.new.self.items c.in-Some._beside (reverse c.pop.new.self.items)
here g c =
    let t = c.self.inside in
    let records : t.records.items ≡ c.pop.new.self.items ++ c.in-Some._beside ∷ [] = c.in-Some.ensures.items in
    let some : 0 < mark_count t.trail.items = omega (arith, c.self.invariant.1, ap length records, length_push c.pop.new.self.items c.in-Some._beside) in
    forgotten_part (parts t.slots t.operands t.activations t.members t.fields) t.clock t.slot_stamps.items t.operand_stamps.items t.base c.lower-self-inside.result c.pop_base-older.result (reverse c.pop_base-older.new.bases.items) (reverse t.bases.items) t.trail.items c.forget.new.self.items c.in-Some._beside (reverse c.pop.new.self.items)
    some c.forget.ensures.forgotten c.pop_base-older.ensures.base c.pop_base-older.ensures.rest c.lower-self-inside.ensures c.self.invariant.0 c.self.invariant.2

pub invariant_of-self-2 : goal.invariant_of-self-2
invariant_of-self-2 g c =
    let records : c.self.inside.records.items ≡ c.pop.new.self.items ++ c.in-Some._beside ∷ [] = c.in-Some.ensures.items in
    ((here g c).undoable, omega (arith, (here g c).marks, c.self.invariant.1, ap length records, length_push c.pop.new.self.items c.in-Some._beside), (here g c).stamped)

pub returns-clause-kept : goal.returns-clause-kept
returns-clause-kept g c =
    let t = c.self.inside in
    let records : t.records.items ≡ c.pop.new.self.items ++ c.in-Some._beside ∷ [] = c.in-Some.ensures.items in
    let turned = ap reverse records ∙ reverse-append c.pop.new.self.items (c.in-Some._beside ∷ []) in
    (here g c).kept ∙ ap (drop 1) (sym (ap (kept_contents (parts t.slots t.operands t.activations t.members t.fields) t.base (reverse t.bases.items) t.trail.items) turned) ∙ ap (λ e. e.kept) c.self.view_is)

pub returns-clause-some : goal.returns-clause-some
returns-clause-some g c =
    let t = c.self.inside in
    let records : t.records.items ≡ c.pop.new.self.items ++ c.in-Some._beside ∷ [] = c.in-Some.ensures.items in
    let count = kept_counted undone cut (cut t.base (contents_of (parts t.slots t.operands t.activations t.members t.fields))) t.trail.items (reverse t.bases.items) (reverse t.records.items) (c.self.invariant.1 ∙ sym (length-reverse t.records.items)) in
    let shown = ap (λ e. length e.kept) c.self.view_is in
    sym (lt-ltb 0 _ (omega (arith, count, shown, c.self.invariant.1, ap length records, length_push c.pop.new.self.items c.in-Some._beside)))
