-- Worked rows of quantifiers.
use Rattle.std.specs.Prelude.{List, [], ◌∷◌, ◌++◌, codes, Some, None}
use Rattle.setl_operators_table.specs.declared.Operator.TheVariants.{Add, Equal, Below, Above}
use Rattle.setl_program.specs.declared.kinds.Quantifier.TheVariants.{Exists, Forall, NotExists}
use Rattle.setl_program.specs.declared.kinds.Source.TheVariants.{Values, Between}
use Rattle.setl_program.specs.Program.{Member, Components, Point, Undefined, Name, Quantified, no_iterator, more_iterators, If, no_stmt}
use Rattle.setl_model_runs.specs.Events.{Om, Kind, Stopped, Spent}
use Rattle.setl_program.specs.Source.{f, n, x, y, yes, number, quoted, exprs, two, set_of, tuple_of, enumeration, row_of, over, assign, print, on_line, at, alone, just}
use Rattle.setl_model.specs.Table.{Row, does, ends, all_end}

-- the names keep the member that decides; otherwise each becomes `om`
abbrev pub quantifier_rows : List Row
quantifier_rows =
    -- y := exists x in [1, 2, 3] | x > 1; print(y, x);
    does 2 (just (on_line 2 (assign y (Quantified Exists (over x (row_of (1 ∷ 2 ∷ 3 ∷ []))) (two Above (Name x)
    (number 1))) ∷ print (Name y ∷ Name x ∷ []) ∷ []))) (codes "true 2\n")
    -- y := exists x in [1, 2, 3] | x > 1; print(y, x);
    -- with 1 turns
    ∷ ends Spent 1 (just (on_line 2 (assign y (Quantified Exists (over x (row_of (1 ∷ 2 ∷ 3 ∷ []))) (two Above (Name x)
    (number 1))) ∷ print (Name y ∷ Name x ∷ []) ∷ []))) []
    -- x := 9; y := exists x in [1, 2] | x > 5; print(y, x);
    ∷ does 2 (just (on_line 2 (assign x (number 9) ∷ assign y (Quantified Exists (over x (row_of (1 ∷ 2 ∷ [])))
    (two Above (Name x) (number 5))) ∷ print (Name y ∷ Name x ∷ []) ∷ []))) (codes "false *\n")
    -- x := 9; y := forall x in [1, 2] | x > 0; print(y, x);
    ∷ does 2 (just (on_line 2 (assign x (number 9) ∷ assign y (Quantified Forall (over x (row_of (1 ∷ 2 ∷ [])))
    (two Above (Name x) (number 0))) ∷ print (Name y ∷ Name x ∷ []) ∷ []))) (codes "true *\n")
    -- y := forall x in [1, 2, 3] | x < 2; print(y, x);
    ∷ does 2 (just (on_line 2 (assign y (Quantified Forall (over x (row_of (1 ∷ 2 ∷ 3 ∷ []))) (two Below (Name x)
    (number 2))) ∷ print (Name y ∷ Name x ∷ []) ∷ []))) (codes "false 2\n")
    -- y := notexists x in [1, 2] | x = 1; print(y, x);
    ∷ does 1 (just (on_line 2 (assign y (Quantified NotExists (over x (row_of (1 ∷ 2 ∷ []))) (two Equal (Name x)
    (number 1))) ∷ print (Name y ∷ Name x ∷ []) ∷ []))) (codes "false 1\n")
    -- y := notexists x in [1, 2] | x = 3; print(y, x);
    ∷ does 2 (just (on_line 2 (assign y (Quantified NotExists (over x (row_of (1 ∷ 2 ∷ []))) (two Equal (Name x)
    (number 3))) ∷ print (Name y ∷ Name x ∷ []) ∷ []))) (codes "true *\n")
    -- x := 9; y := exists x in {} | 1; print(y, x);
    -- x := 9; y := forall x in {} | 1; print(y, x); x := 9; y := notexists x in {} | om; print(y, x);
    ∷ does 0 (just (at 2 (assign x (number 9)) (at 2 (assign y (Quantified Exists (over x (set_of [])) (number 1)))
    (at 2 (print (Name y ∷ Name x ∷ [])) (at 3 (assign x (number 9)) (at 3 (assign y (Quantified Forall (over x
    (set_of [])) (number 1))) (at 3 (print (Name y ∷ Name x ∷ [])) (at 3 (assign x (number 9)) (at 3 (assign y
    (Quantified NotExists (over x (set_of [])) Undefined)) (at 3 (print (Name y ∷ Name x ∷ [])) no_stmt))))))))))
    (codes "false *\ntrue *\ntrue *\n")
    -- n := exists x in [1, 2], y in [x..3] | x + y = 5; print(n, x, y);
    ∷ does 7 (just (on_line 2 (assign n (Quantified Exists (more_iterators (Member Values x) (exprs (row_of (1 ∷ 2 ∷ [])
    ∷ [])) (more_iterators (Member Between y) (exprs (Name x ∷ number 3 ∷ [])) no_iterator)) (two Equal (two Add
    (Name x) (Name y)) (number 5))) ∷ print (Name n ∷ Name x ∷ Name y ∷ []) ∷ []))) (codes "true 2 3\n")
    -- n := exists x in [1, 2], y in [x..2] | x + y = 5; print(n, x, y);
    ∷ does 5 (just (on_line 2 (assign n (Quantified Exists (more_iterators (Member Values x) (exprs (row_of (1 ∷ 2 ∷ [])
    ∷ [])) (more_iterators (Member Between y) (exprs (Name x ∷ number 2 ∷ [])) no_iterator)) (two Equal (two Add
    (Name x) (Name y)) (number 5))) ∷ print (Name n ∷ Name x ∷ Name y ∷ []) ∷ []))) (codes "false * *\n")
    -- f := {[1, 2], [2, 5]}; n := exists y = f(x) | y = 5; print(n, x, y);
    ∷ does 2 (just (on_line 2 (assign f (set_of (row_of (1 ∷ 2 ∷ []) ∷ row_of (2 ∷ 5 ∷ []) ∷ [])) ∷ assign n
    (Quantified Exists (more_iterators (Point y x) (exprs (Name f ∷ [])) no_iterator) (two Equal (Name y)
    (number 5))) ∷ print (Name n ∷ Name x ∷ Name y ∷ []) ∷ []))) (codes "true 2 5\n")
    -- n := forall [x, -, y] in {[1, 2, 1], [2, 3, 4]} | x = y; print(n, x, y);
    ∷ does 2 (just (on_line 2 (assign n (Quantified Forall (more_iterators (Components Values (Some x ∷ None ∷ Some y
    ∷ [])) (exprs (set_of (row_of (1 ∷ 2 ∷ 1 ∷ []) ∷ row_of (2 ∷ 3 ∷ 4 ∷ []) ∷ []) ∷ [])) no_iterator)
    (two Equal (Name x) (Name y))) ∷ print (Name n ∷ Name x ∷ Name y ∷ []) ∷ []))) (codes "false 2 4\n")
    -- if exists x in {1} | true then print(x); end if;
    ∷ does 1 (just (alone 2 (If (Quantified Exists (over x (enumeration (1 ∷ []))) yes) (alone 2 (print (Name x
    ∷ []))) no_stmt))) (codes "1\n")
    -- kind 2:
    -- y := exists x in [1] | x;
    -- y := forall x in [1] | 5;
    -- y := notexists x in [true]
    -- | 'a';
    -- y := exists x in 5 | true;
    -- y := forall [x] in [1] | true;
    ∷ all_end (Stopped Kind 2) (
    just (alone 2 (assign y (Quantified Exists (over x (row_of (1 ∷ []))) (Name x))))
    ∷ just (alone 2 (assign y (Quantified Forall (over x (row_of (1 ∷ []))) (number 5))))
    ∷ just (alone 2 (assign y (Quantified NotExists (over x (tuple_of (yes ∷ []))) (quoted (codes "a")))))
    ∷ just (alone 2 (assign y (Quantified Exists (over x (number 5)) yes)))
    ∷ just (alone 2 (assign y (Quantified Forall (more_iterators (Components Values (Some x ∷ [])) (exprs (row_of
    (1 ∷ []) ∷ [])) no_iterator) yes)))
    ∷ [])
    -- om 2:
    -- y := exists x in [1] | om;
    -- y := forall x in [1] | om;
    -- y := exists x in om | true;
    ++ all_end (Stopped Om 2) (
    just (alone 2 (assign y (Quantified Exists (over x (row_of (1 ∷ []))) Undefined)))
    ∷ just (alone 2 (assign y (Quantified Forall (over x (row_of (1 ∷ []))) Undefined)))
    ∷ just (alone 2 (assign y (Quantified Exists (over x Undefined) yes)))
    ∷ [])
