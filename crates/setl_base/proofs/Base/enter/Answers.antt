use Rattle.std.proofs.Common.{◌≡◌, None, sym, arith, ap, ◌∙◌, ◌++◌, ◌∷◌, []}
use Rattle.indexmap.proofs.CallerLemmas.{insert_entry-new}
use Rattle.setl_value.specs.code.DatumOf.{datum}
use Rattle.setl_base.specs.Base.{find}
use Rattle.setl_base.specs.Table.{base_of}
use Rattle.setl_base.proofs.Found.{same_key, found_lives, none_left, none_in_table}
use Rattle.setl_base.proofs.Tabled.{table_put, base_put, found_last}
use Rattle.setl_base.proofs.Base.enter.Goals as goal

absent : (c : goal.In_ok-insert) → find (base_of c.self.inside.table c.self.inside.cuts) (datum c.args.v) ≡ None
absent c = ap (λ b. find b (datum c.args.v)) c.self.view_is ∙ sym c.find.ensures.handle ∙ none_left c.find.result c.in_default.not-Some

put : (c : goal.In_ok-insert) → c.insert.new.self.entries ≡ c.self.inside.table.entries ++ (c.args.v, c.self.inside.cuts) ∷ []
put c =
    c.in_ok-insert.ensures.entries ∙ insert_entry-new same_key c.self.inside.table c.args.v c.self.inside.cuts (none_in_table (datum c.args.v) c.self.inside.table.entries 1 (absent c))

pub invariant_of-self-2 : goal.invariant_of-self-2
invariant_of-self-2 c =
    table_put c.self.inside.table c.insert.new.self _ c.args.v c.self.invariant (put c) c.learn.ensures (omega (arith, c.len.ensures.len, c.len.ensures.small))

pub returns-clause-entered : goal.returns-clause-entered
returns-clause-entered c = rw (← c.self.view_is) (base_put c.self.inside.table c.insert.new.self _ c.args.v (absent c) (put c))

pub returns-clause-handle : goal.returns-clause-handle
returns-clause-handle c =
    found_last c.self.inside.table.entries _ c.args.v _ _ (absent c) (put c) (omega (arith, c.len.ensures.len))

pub returns-clause-living : goal.returns-clause-living
returns-clause-living c = found_lives (base_of c.insert.new.self c.self.inside.cuts) (datum c.args.v) _ (returns-clause-handle c)
