-- Worked rows of whole programs.
use Rattle.std.specs.Prelude.{List, [], ◌∷◌, codes}
use Rattle.setl_model_runs.specs.Variable.{Bound}
use Rattle.setl_operators_table.specs.declared.Operator.TheVariants.{With, Npow, Add, NotEqual, NotIn, Size, Pow, FoldAdd, FoldMax, SetRange, TupleRange}
use Rattle.setl_modes.specs.Modes.{Integers, Elements, Sets, MultiMaps}
use Rattle.setl_modes.specs.declared.mode.Form.TheVariants.{Local, Remote, Sparse}
use Rattle.setl_program.specs.declared.kinds.Collection.TheVariants.{OfTuple}
use Rattle.setl_program.specs.declared.kinds.Taking.TheVariants.{TakeFirst}
use Rattle.setl_program.specs.Program.{Undefined, Name, Former, no_condition, no_selector, TakeFrom, If, For, While, Read, no_stmt}
use Rattle.setl_model_runs.specs.Events.{Wide, Done, Stopped, Spent}
use Rattle.setl_program.specs.Source.{own, g, s, t, x, y, number, quoted, one, two, set_of, tuple_of, enumeration, row_of, at_round, at_brace, over, assign, combine, combine_brace, print, on_line, at, alone, lines_from, just, with_modes}
use Rattle.setl_model.specs.Table.{Row, does, ends, reads, unbased}

-- programs of several parts
abbrev pub whole_rows : List Row
whole_rows =
    --
    does 9 (just no_stmt) []
    -- print({3,1,2,1}, [1,om,2], 'it''s');
    ∷ does 9 (just (alone 2 (print (enumeration (3 ∷ 1 ∷ 2 ∷ 1 ∷ []) ∷ tuple_of (number 1 ∷ Undefined ∷ number 2 ∷ [])
    ∷ quoted (codes "it's") ∷ [])))) (codes "{1 2 3} [1 * 2] it's\n")
    -- print(170141183460469231731687303715884105727);
    -- print(170141183460469231731687303715884105727 + 1);
    ∷ ends (Stopped Wide 3) 9 (just (lines_from 2 (print (number 170141183460469231731687303715884105727 ∷ []) ∷ print
    (two Add (number 170141183460469231731687303715884105727) (number 1) ∷ []) ∷ [])))
    (codes "170141183460469231731687303715884105727\n")
    -- s := {3,1,2,1}; s with:= 5; print(s, 7);
    ∷ does 9 (just (on_line 2 (assign s (enumeration (3 ∷ 1 ∷ 2 ∷ 1 ∷ [])) ∷ combine With s (number 5) ∷ print (Name s
    ∷ number 7 ∷ []) ∷ []))) (codes "{1 2 3 5} 7\n")
    -- print(pow {1,2}, 2 npow {1,2,3});
    ∷ does 9 (just (alone 2 (print (one Pow (enumeration (1 ∷ 2 ∷ [])) ∷ two Npow (number 2) (enumeration (1 ∷ 2 ∷ 3
    ∷ [])) ∷ [])))) (codes "{{} {1} {1 2} {2}} {{1 2} {1 3} {2 3}}\n")
    -- print(+/ [1..4], +/ {}, max/ {3,9,4});
    ∷ does 9 (just (alone 2 (print (one FoldAdd (two TupleRange (number 1) (number 4)) ∷ one FoldAdd (set_of [])
    ∷ one FoldMax (enumeration (3 ∷ 9 ∷ 4 ∷ [])) ∷ [])))) (codes "10 * 9\n")
    -- x := {1..11}; print(#x);
    -- with 10 turns
    ∷ ends Spent 10 (just (on_line 2 (assign x (two SetRange (number 1) (number 11)) ∷ print (one Size (Name x) ∷ [])
    ∷ []))) []
    -- repr base n: int; g: local mmap{elmt n} remote set(elmt n);
    -- seen: local set(elmt n); end repr;
    -- g := {[1,2],[2,3],[4,1]};
    -- seen := {}; todo := [1];
    -- (while todo /= [])
    -- x fromb todo;
    -- if x notin seen then
    -- seen with:= x;
    -- (for y in g{x}) todo with:= y; end for;
    -- end if;
    -- end while;
    -- print(seen);
    ∷ does 99 ((with_modes (at 4 (assign g (set_of (row_of (1 ∷ 2 ∷ []) ∷ row_of (2 ∷ 3 ∷ []) ∷ row_of (4 ∷ 1 ∷ [])
    ∷ []))) (at 5 (assign (own (codes "seen")) (set_of [])) (at 5 (assign (own (codes "todo")) (row_of (1 ∷ [])))
    (at 6 (While (two NotEqual (Name (own (codes "todo"))) (tuple_of [])) (lines_from 7 (TakeFrom TakeFirst x
    (record { variable = (own (codes "todo")); selectors = no_selector }) ∷ If (two NotIn (Name x) (Name (own
    (codes "seen")))) (lines_from 9 (combine With (own (codes "seen")) (Name x) ∷ For (over y (at_brace (Name g)
    (Name x))) no_condition (alone 10 (combine With (own (codes "todo")) (Name y))) ∷ [])) no_stmt ∷ []))) (at 13
    (print (Name (own (codes "seen")) ∷ [])) no_stmt))))) [] ((
      g,
      MultiMaps Local
          (Elements 0 Integers) (Sets Remote (Elements 0 Integers)),
    ) ∷ (
      own (codes "seen"),
      Sets Local
          (Elements 0 Integers),
    ) ∷ []))) (codes "{1 2 3}\n")
    -- repr base n: int; g: local mmap{elmt n} remote set(elmt n);
    -- seen: local set(elmt n); end repr;
    -- g := {[1,2],[2,3],[4,1]};
    -- seen := {}; todo := [1];
    -- (while todo /= [])
    -- x fromb todo;
    -- if x notin seen then
    -- seen with:= x;
    -- (for y in g{x}) todo with:= y; end for;
    -- end if;
    -- end while;
    -- print(seen);
    -- without declarations
    ∷ unbased 99 ((with_modes (at 4 (assign g (set_of (row_of (1 ∷ 2 ∷ []) ∷ row_of (2 ∷ 3 ∷ []) ∷ row_of (4 ∷ 1
    ∷ []) ∷ []))) (at 5 (assign (own (codes "seen")) (set_of [])) (at 5 (assign (own (codes "todo")) (row_of (1
    ∷ []))) (at 6 (While (two NotEqual (Name (own (codes "todo"))) (tuple_of [])) (lines_from 7
    (TakeFrom TakeFirst x (record { variable = (own (codes "todo")); selectors = no_selector }) ∷ If (two NotIn
    (Name x) (Name (own (codes "seen")))) (lines_from 9 (combine With (own (codes "seen")) (Name x) ∷ For (over y
    (at_brace (Name g) (Name x))) no_condition (alone 10 (combine With (own (codes "todo")) (Name y)))
    ∷ [])) no_stmt ∷ []))) (at 13 (print (Name (own (codes "seen")) ∷ [])) no_stmt))))) [] ((g, MultiMaps Local (Elements 0 Integers) (Sets Remote (Elements 0 Integers))) ∷ (
      own
          (codes "seen"),
      Sets Local (Elements 0 Integers),
    ) ∷ []))) (codes "{1 2 3}\n") Done
    -- repr base n: int; s: remote set(elmt n); t: sparse set(elmt n); end repr;
    -- s := {30,10}; t := {20,10}; s with:= 20; print(s, t); print([x : x in s]);
    ∷ does 9 ((with_modes (on_line 3 (assign s (enumeration (30 ∷ 10 ∷ [])) ∷ assign t (enumeration (20 ∷ 10 ∷ []))
    ∷ combine With s (number 20) ∷ print (Name s ∷ Name t ∷ []) ∷ print (Former OfTuple (Name (Bound 1
    (codes "x"))) (over (Bound 1 (codes "x")) (Name s)) no_condition ∷ []) ∷ [])) [] ((s, Sets Remote (Elements 0 Integers)) ∷ (t, Sets Sparse (Elements 0 Integers)) ∷ [])))
    (codes "{10 20 30} {10 20}\n[10 20 30]\n")
    -- repr
    -- base node: int;
    -- g: local mmap{elmt node} sparse set(elmt node);
    -- seen: remote set(elmt node);
    -- end repr;
    -- g := {}; seen := {}; todo := [1];
    -- read(e);
    -- (while e /= om) g{e(1)} with:= e(2); read(e); end while;
    -- (while todo /= [])
    -- x fromb todo;
    -- if x notin seen then
    -- seen with:= x;
    -- (for y in g{x}) todo with:= y; end for;
    -- end if;
    -- end while;
    -- print(#seen);
    ∷ reads (codes "[1 1]\n[1 1]\n") 400 ((with_modes (at 7 (assign g (set_of [])) (at 7 (assign (own (codes "seen"))
    (set_of [])) (at 7 (assign (own (codes "todo")) (row_of (1 ∷ []))) (at 8 (Read ((own (codes "e")) ∷ [])) (at 9
    (While (two NotEqual (Name (own (codes "e"))) Undefined) (on_line 9 (combine_brace With g (at_round (Name (own
    (codes "e"))) (number 1)) (at_round (Name (own (codes "e"))) (number 2)) ∷ Read ((own (codes "e")) ∷ [])
    ∷ []))) (at 10 (While (two NotEqual (Name (own (codes "todo"))) (tuple_of [])) (lines_from 11
    (TakeFrom TakeFirst x (record { variable = (own (codes "todo")); selectors = no_selector }) ∷ If (two NotIn
    (Name x) (Name (own (codes "seen")))) (lines_from 13 (combine With (own (codes "seen")) (Name x) ∷ For (over y
    (at_brace (Name g) (Name x))) no_condition (alone 14 (combine With (own (codes "todo")) (Name y)))
    ∷ [])) no_stmt ∷ []))) (at 17 (print (one Size (Name (own (codes "seen")))
    ∷ [])) no_stmt))))))) [] ((
      g,
      MultiMaps Local (Elements 0 Integers) (Sets Sparse
          (Elements 0 Integers)),
    ) ∷ (own (codes "seen"), Sets Remote (Elements 0 Integers)) ∷ []))) (codes "1\n") Done
    -- repr
    -- base node: int;
    -- g: local mmap{elmt node} sparse set(elmt node);
    -- seen: remote set(elmt node);
    -- end repr;
    -- g := {}; seen := {}; todo := [1];
    -- read(e);
    -- (while e /= om) g{e(1)} with:= e(2); read(e); end while;
    -- (while todo /= [])
    -- x fromb todo;
    -- if x notin seen then
    -- seen with:= x;
    -- (for y in g{x}) todo with:= y; end for;
    -- end if;
    -- end while;
    -- print(#seen);
    ∷ reads (codes "[3 4]\n[2 2]\n[2 4]\n[1 1]\n[4 3]\n[4 4]\n[1 1]\n[2 3]\n") 400 ((with_modes (at 7 (assign g
    (set_of [])) (at 7 (assign (own (codes "seen")) (set_of [])) (at 7 (assign (own (codes "todo")) (row_of (1
    ∷ []))) (at 8 (Read ((own (codes "e")) ∷ [])) (at 9 (While (two NotEqual (Name (own (codes "e"))) Undefined)
    (on_line 9 (combine_brace With g (at_round (Name (own (codes "e"))) (number 1)) (at_round (Name (own
    (codes "e"))) (number 2)) ∷ Read ((own (codes "e")) ∷ []) ∷ []))) (at 10 (While (two NotEqual (Name (own
    (codes "todo"))) (tuple_of [])) (lines_from 11 (TakeFrom TakeFirst x (record {
      variable = (own
          (codes "todo"));
      selectors = no_selector;
    }) ∷ If (two NotIn (Name x) (Name (own (codes "seen"))))
    (lines_from 13 (combine With (own (codes "seen")) (Name x) ∷ For (over y (at_brace (Name g)
    (Name x))) no_condition (alone 14 (combine With (own (codes "todo")) (Name y))) ∷ [])) no_stmt ∷ []))) (at 17
    (print (one Size (Name (own (codes "seen"))) ∷ [])) no_stmt))))))) [] ((g, MultiMaps Local (Elements 0 Integers) (Sets Sparse (Elements 0 Integers))) ∷ (
      own
          (codes "seen"),
      Sets Remote (Elements 0 Integers),
    ) ∷ []))) (codes "1\n") Done
    ∷ []
