-- Texts at corners of the grammar, and what the parser answers, computed.
use Rattle.std.proofs.Common.{◌≡◌, [], ◌∷◌, true, false, refl}
use Rattle.script_grammar.specs.declared.token.Kind.TheVariants as kind
use Rattle.script_grammar.specs.declared.token.mark.TheConstants as mark
use Rattle.script_grammar.specs.declared.token.word.TheConstants as word
use Rattle.grammar_deferred_laws.proofs.Rows.{Accepted, Unexpected, Leaves, answer, answer_expression, name_at, number_at, text_at, word_at, mark_at, bad_at, end_at}

-- `function f(){}()`
row_0 : answer 12 ((word_at word.FUNCTION (102 ∷ 117 ∷ 110 ∷ 99 ∷ 116 ∷ 105 ∷ 111 ∷ 110 ∷ []) 0 8 false) ∷ (name_at (102 ∷ []) 9 10 false) ∷ (mark_at mark.OPEN_PAREN 10 11 false) ∷ (mark_at mark.CLOSE_PAREN 11 12 false) ∷ (mark_at mark.OPEN_BRACE 12 13 false) ∷ (mark_at mark.CLOSE_BRACE 13 14 false) ∷ (mark_at mark.OPEN_PAREN 14 15 false) ∷ (mark_at mark.CLOSE_PAREN 15 16 false) ∷ (end_at 16 false) ∷ []) ≡ Unexpected 16
unfolding answer
row_0 = refl

-- `(a,,`
row_1 : answer 12 ((mark_at mark.OPEN_PAREN 0 1 false) ∷ (name_at (97 ∷ []) 1 2 false) ∷ (mark_at mark.COMMA 2 3 false) ∷ (mark_at mark.COMMA 3 4 false) ∷ (end_at 4 false) ∷ []) ≡ Unexpected 3
unfolding answer
row_1 = refl

-- `-()`
row_2 : answer 12 ((mark_at mark.MINUS 0 1 false) ∷ (mark_at mark.OPEN_PAREN 1 2 false) ∷ (mark_at mark.CLOSE_PAREN 2 3 false) ∷ (end_at 3 false) ∷ []) ≡ Unexpected 2
unfolding answer
row_2 = refl

-- `a || () => 1`
row_3 : answer 12 ((name_at (97 ∷ []) 0 1 false) ∷ (mark_at mark.OR 2 4 false) ∷ (mark_at mark.OPEN_PAREN 5 6 false) ∷ (mark_at mark.CLOSE_PAREN 6 7 false) ∷ (mark_at mark.ARROW 8 10 false) ∷ (number_at 1 11 12 false) ∷ (end_at 12 false) ∷ []) ≡ Unexpected 6
unfolding answer
row_3 = refl

-- `((a)) => b`
row_4 : answer 12 ((mark_at mark.OPEN_PAREN 0 1 false) ∷ (mark_at mark.OPEN_PAREN 1 2 false) ∷ (name_at (97 ∷ []) 2 3 false) ∷ (mark_at mark.CLOSE_PAREN 3 4 false) ∷ (mark_at mark.CLOSE_PAREN 4 5 false) ∷ (mark_at mark.ARROW 6 8 false) ∷ (name_at (98 ∷ []) 9 10 false) ∷ (end_at 10 false) ∷ []) ≡ Unexpected 6
unfolding answer
row_4 = refl

-- `(1,)`
row_5 : answer 12 ((mark_at mark.OPEN_PAREN 0 1 false) ∷ (number_at 1 1 2 false) ∷ (mark_at mark.COMMA 2 3 false) ∷ (mark_at mark.CLOSE_PAREN 3 4 false) ∷ (end_at 4 false) ∷ []) ≡ Unexpected 3
unfolding answer
row_5 = refl

-- `async (x) => x`
row_6 : answer 12 ((name_at (97 ∷ 115 ∷ 121 ∷ 110 ∷ 99 ∷ []) 0 5 false) ∷ (mark_at mark.OPEN_PAREN 6 7 false) ∷ (name_at (120 ∷ []) 7 8 false) ∷ (mark_at mark.CLOSE_PAREN 8 9 false) ∷ (mark_at mark.ARROW 10 12 false) ∷ (name_at (120 ∷ []) 13 14 false) ∷ (end_at 14 false) ∷ []) ≡ Unexpected 10
unfolding answer
row_6 = refl

-- `x => {}.y`
row_7 : answer 12 ((name_at (120 ∷ []) 0 1 false) ∷ (mark_at mark.ARROW 2 4 false) ∷ (mark_at mark.OPEN_BRACE 5 6 false) ∷ (mark_at mark.CLOSE_BRACE 6 7 false) ∷ (mark_at mark.DOT 7 8 false) ∷ (name_at (121 ∷ []) 8 9 false) ∷ (end_at 9 false) ∷ []) ≡ Unexpected 7
unfolding answer
row_7 = refl

-- `x => {}\n/ y`
row_8 : answer 12 ((name_at (120 ∷ []) 0 1 false) ∷ (mark_at mark.ARROW 2 4 false) ∷ (mark_at mark.OPEN_BRACE 5 6 false) ∷ (mark_at mark.CLOSE_BRACE 6 7 false) ∷ (mark_at mark.DIVIDE 8 9 true) ∷ (name_at (121 ∷ []) 10 11 false) ∷ (end_at 11 false) ∷ []) ≡ Unexpected 8
unfolding answer
row_8 = refl

-- `x => {}\n, 1`
row_9 : answer 12 ((name_at (120 ∷ []) 0 1 false) ∷ (mark_at mark.ARROW 2 4 false) ∷ (mark_at mark.OPEN_BRACE 5 6 false) ∷ (mark_at mark.CLOSE_BRACE 6 7 false) ∷ (mark_at mark.COMMA 8 9 true) ∷ (number_at 1 10 11 false) ∷ (end_at 11 false) ∷ []) ≡ Accepted
unfolding answer
row_9 = refl

-- `a ? x => {} : 1`
row_10 : answer 12 ((name_at (97 ∷ []) 0 1 false) ∷ (mark_at mark.QUESTION 2 3 false) ∷ (name_at (120 ∷ []) 4 5 false) ∷ (mark_at mark.ARROW 6 8 false) ∷ (mark_at mark.OPEN_BRACE 9 10 false) ∷ (mark_at mark.CLOSE_BRACE 10 11 false) ∷ (mark_at mark.COLON 12 13 false) ∷ (number_at 1 14 15 false) ∷ (end_at 15 false) ∷ []) ≡ Accepted
unfolding answer
row_10 = refl

-- `a ? (b) => (c) : d`
row_11 : answer 12 ((name_at (97 ∷ []) 0 1 false) ∷ (mark_at mark.QUESTION 2 3 false) ∷ (mark_at mark.OPEN_PAREN 4 5 false) ∷ (name_at (98 ∷ []) 5 6 false) ∷ (mark_at mark.CLOSE_PAREN 6 7 false) ∷ (mark_at mark.ARROW 8 10 false) ∷ (mark_at mark.OPEN_PAREN 11 12 false) ∷ (name_at (99 ∷ []) 12 13 false) ∷ (mark_at mark.CLOSE_PAREN 13 14 false) ∷ (mark_at mark.COLON 15 16 false) ∷ (name_at (100 ∷ []) 17 18 false) ∷ (end_at 18 false) ∷ []) ≡ Accepted
unfolding answer
row_11 = refl

-- `(a += 1, ...b)`
row_12 : answer 12 ((mark_at mark.OPEN_PAREN 0 1 false) ∷ (name_at (97 ∷ []) 1 2 false) ∷ (mark_at mark.PLUS_ASSIGN 3 5 false) ∷ (number_at 1 6 7 false) ∷ (mark_at mark.COMMA 7 8 false) ∷ (mark_at mark.ELLIPSIS 9 12 false) ∷ (name_at (98 ∷ []) 12 13 false) ∷ (mark_at mark.CLOSE_PAREN 13 14 false) ∷ (end_at 14 false) ∷ []) ≡ Unexpected 9
unfolding answer
row_12 = refl

-- `(...5)`
row_13 : answer 12 ((mark_at mark.OPEN_PAREN 0 1 false) ∷ (mark_at mark.ELLIPSIS 1 4 false) ∷ (number_at 5 4 5 false) ∷ (mark_at mark.CLOSE_PAREN 5 6 false) ∷ (end_at 6 false) ∷ []) ≡ Unexpected 4
unfolding answer
row_13 = refl

-- `x++\n++y`
row_14 : answer 12 ((name_at (120 ∷ []) 0 1 false) ∷ (mark_at mark.INCREMENT 1 3 false) ∷ (mark_at mark.INCREMENT 4 6 true) ∷ (name_at (121 ∷ []) 6 7 false) ∷ (end_at 7 false) ∷ []) ≡ Accepted
unfolding answer
row_14 = refl

-- `x++\n[1]`
row_15 : answer 12 ((name_at (120 ∷ []) 0 1 false) ∷ (mark_at mark.INCREMENT 1 3 false) ∷ (mark_at mark.OPEN_BRACKET 4 5 true) ∷ (number_at 1 5 6 false) ∷ (mark_at mark.CLOSE_BRACKET 6 7 false) ∷ (end_at 7 false) ∷ []) ≡ Accepted
unfolding answer
row_15 = refl

-- `++x\n(y)`
row_16 : answer 12 ((mark_at mark.INCREMENT 0 2 false) ∷ (name_at (120 ∷ []) 2 3 false) ∷ (mark_at mark.OPEN_PAREN 4 5 true) ∷ (name_at (121 ∷ []) 5 6 false) ∷ (mark_at mark.CLOSE_PAREN 6 7 false) ∷ (end_at 7 false) ∷ []) ≡ Accepted
unfolding answer
row_16 = refl

-- `x\n--> y`
row_17 : answer 12 ((name_at (120 ∷ []) 0 1 false) ∷ (mark_at mark.DECREMENT 2 4 true) ∷ (mark_at mark.GREATER 4 5 false) ∷ (name_at (121 ∷ []) 6 7 false) ∷ (end_at 7 false) ∷ []) ≡ Unexpected 4
unfolding answer
row_17 = refl

-- `var a\n=1`
row_18 : answer 12 ((word_at word.VAR (118 ∷ 97 ∷ 114 ∷ []) 0 3 false) ∷ (name_at (97 ∷ []) 4 5 false) ∷ (mark_at mark.ASSIGN 6 7 true) ∷ (number_at 1 7 8 false) ∷ (end_at 8 false) ∷ []) ≡ Accepted
unfolding answer
row_18 = refl

-- `let x\nlet y`
row_19 : answer 12 ((word_at word.LET (108 ∷ 101 ∷ 116 ∷ []) 0 3 false) ∷ (name_at (120 ∷ []) 4 5 false) ∷ (word_at word.LET (108 ∷ 101 ∷ 116 ∷ []) 6 9 true) ∷ (name_at (121 ∷ []) 10 11 false) ∷ (end_at 11 false) ∷ []) ≡ Accepted
unfolding answer
row_19 = refl

-- `a b`
row_20 : answer 12 ((name_at (97 ∷ []) 0 1 false) ∷ (name_at (98 ∷ []) 2 3 false) ∷ (end_at 3 false) ∷ []) ≡ Unexpected 2
unfolding answer
row_20 = refl

-- `a\n:b`
row_21 : answer 12 ((name_at (97 ∷ []) 0 1 false) ∷ (mark_at mark.COLON 2 3 true) ∷ (name_at (98 ∷ []) 3 4 false) ∷ (end_at 4 false) ∷ []) ≡ Accepted
unfolding answer
row_21 = refl

-- `a: let x`
row_22 : answer 12 ((name_at (97 ∷ []) 0 1 false) ∷ (mark_at mark.COLON 1 2 false) ∷ (word_at word.LET (108 ∷ 101 ∷ 116 ∷ []) 3 6 false) ∷ (name_at (120 ∷ []) 7 8 false) ∷ (end_at 8 false) ∷ []) ≡ Unexpected 3
unfolding answer
row_22 = refl

-- `if (a); else b`
row_23 : answer 12 ((word_at word.IF (105 ∷ 102 ∷ []) 0 2 false) ∷ (mark_at mark.OPEN_PAREN 3 4 false) ∷ (name_at (97 ∷ []) 4 5 false) ∷ (mark_at mark.CLOSE_PAREN 5 6 false) ∷ (mark_at mark.SEMICOLON 6 7 false) ∷ (word_at word.ELSE (101 ∷ 108 ∷ 115 ∷ 101 ∷ []) 8 12 false) ∷ (name_at (98 ∷ []) 13 14 false) ∷ (end_at 14 false) ∷ []) ≡ Accepted
unfolding answer
row_23 = refl

-- `do x while (0)`
row_24 : answer 12 ((word_at word.DO (100 ∷ 111 ∷ []) 0 2 false) ∷ (name_at (120 ∷ []) 3 4 false) ∷ (word_at word.WHILE (119 ∷ 104 ∷ 105 ∷ 108 ∷ 101 ∷ []) 5 10 false) ∷ (mark_at mark.OPEN_PAREN 11 12 false) ∷ (number_at 0 12 13 false) ∷ (mark_at mark.CLOSE_PAREN 13 14 false) ∷ (end_at 14 false) ∷ []) ≡ Unexpected 5
unfolding answer
row_24 = refl

-- `if (a) do;while(0) else b`
row_25 : answer 12 ((word_at word.IF (105 ∷ 102 ∷ []) 0 2 false) ∷ (mark_at mark.OPEN_PAREN 3 4 false) ∷ (name_at (97 ∷ []) 4 5 false) ∷ (mark_at mark.CLOSE_PAREN 5 6 false) ∷ (word_at word.DO (100 ∷ 111 ∷ []) 7 9 false) ∷ (mark_at mark.SEMICOLON 9 10 false) ∷ (word_at word.WHILE (119 ∷ 104 ∷ 105 ∷ 108 ∷ 101 ∷ []) 10 15 false) ∷ (mark_at mark.OPEN_PAREN 15 16 false) ∷ (number_at 0 16 17 false) ∷ (mark_at mark.CLOSE_PAREN 17 18 false) ∷ (word_at word.ELSE (101 ∷ 108 ∷ 115 ∷ 101 ∷ []) 19 23 false) ∷ (name_at (98 ∷ []) 24 25 false) ∷ (end_at 25 false) ∷ []) ≡ Accepted
unfolding answer
row_25 = refl

-- `for (;;)`
row_26 : answer 12 ((word_at word.FOR (102 ∷ 111 ∷ 114 ∷ []) 0 3 false) ∷ (mark_at mark.OPEN_PAREN 4 5 false) ∷ (mark_at mark.SEMICOLON 5 6 false) ∷ (mark_at mark.SEMICOLON 6 7 false) ∷ (mark_at mark.CLOSE_PAREN 7 8 false) ∷ (end_at 8 false) ∷ []) ≡ Unexpected 8
unfolding answer
row_26 = refl

-- `function f(){ return\n; }`
row_27 : answer 12 ((word_at word.FUNCTION (102 ∷ 117 ∷ 110 ∷ 99 ∷ 116 ∷ 105 ∷ 111 ∷ 110 ∷ []) 0 8 false) ∷ (name_at (102 ∷ []) 9 10 false) ∷ (mark_at mark.OPEN_PAREN 10 11 false) ∷ (mark_at mark.CLOSE_PAREN 11 12 false) ∷ (mark_at mark.OPEN_BRACE 12 13 false) ∷ (word_at word.RETURN (114 ∷ 101 ∷ 116 ∷ 117 ∷ 114 ∷ 110 ∷ []) 14 20 false) ∷ (mark_at mark.SEMICOLON 21 22 true) ∷ (mark_at mark.CLOSE_BRACE 23 24 false) ∷ (end_at 24 false) ∷ []) ≡ Accepted
unfolding answer
row_27 = refl

-- `() => return`
row_28 : answer 12 ((mark_at mark.OPEN_PAREN 0 1 false) ∷ (mark_at mark.CLOSE_PAREN 1 2 false) ∷ (mark_at mark.ARROW 3 5 false) ∷ (word_at word.RETURN (114 ∷ 101 ∷ 116 ∷ 117 ∷ 114 ∷ 110 ∷ []) 6 12 false) ∷ (end_at 12 false) ∷ []) ≡ Unexpected 6
unfolding answer
row_28 = refl

-- `throw\n;`
row_29 : answer 12 ((word_at word.THROW (116 ∷ 104 ∷ 114 ∷ 111 ∷ 119 ∷ []) 0 5 false) ∷ (mark_at mark.SEMICOLON 6 7 true) ∷ (end_at 7 false) ∷ []) ≡ Unexpected 6
unfolding answer
row_29 = refl

-- `while (1) break a`
row_30 : answer 12 ((word_at word.WHILE (119 ∷ 104 ∷ 105 ∷ 108 ∷ 101 ∷ []) 0 5 false) ∷ (mark_at mark.OPEN_PAREN 6 7 false) ∷ (number_at 1 7 8 false) ∷ (mark_at mark.CLOSE_PAREN 8 9 false) ∷ (word_at word.BREAK (98 ∷ 114 ∷ 101 ∷ 97 ∷ 107 ∷ []) 10 15 false) ∷ (name_at (97 ∷ []) 16 17 false) ∷ (end_at 17 false) ∷ []) ≡ Accepted
unfolding answer
row_30 = refl

-- `debugger (b)`
row_31 : answer 12 ((word_at word.DEBUGGER (100 ∷ 101 ∷ 98 ∷ 117 ∷ 103 ∷ 103 ∷ 101 ∷ 114 ∷ []) 0 8 false) ∷ (mark_at mark.OPEN_PAREN 9 10 false) ∷ (name_at (98 ∷ []) 10 11 false) ∷ (mark_at mark.CLOSE_PAREN 11 12 false) ∷ (end_at 12 false) ∷ []) ≡ Unexpected 9
unfolding answer
row_31 = refl

-- `for (a ? b in c : d;;);`
row_32 : answer 12 ((word_at word.FOR (102 ∷ 111 ∷ 114 ∷ []) 0 3 false) ∷ (mark_at mark.OPEN_PAREN 4 5 false) ∷ (name_at (97 ∷ []) 5 6 false) ∷ (mark_at mark.QUESTION 7 8 false) ∷ (name_at (98 ∷ []) 9 10 false) ∷ (word_at word.IN (105 ∷ 110 ∷ []) 11 13 false) ∷ (name_at (99 ∷ []) 14 15 false) ∷ (mark_at mark.COLON 16 17 false) ∷ (name_at (100 ∷ []) 18 19 false) ∷ (mark_at mark.SEMICOLON 19 20 false) ∷ (mark_at mark.SEMICOLON 20 21 false) ∷ (mark_at mark.CLOSE_PAREN 21 22 false) ∷ (mark_at mark.SEMICOLON 22 23 false) ∷ (end_at 23 false) ∷ []) ≡ Accepted
unfolding answer
row_32 = refl

-- `for (x => { y in z };;);`
row_33 : answer 12 ((word_at word.FOR (102 ∷ 111 ∷ 114 ∷ []) 0 3 false) ∷ (mark_at mark.OPEN_PAREN 4 5 false) ∷ (name_at (120 ∷ []) 5 6 false) ∷ (mark_at mark.ARROW 7 9 false) ∷ (mark_at mark.OPEN_BRACE 10 11 false) ∷ (name_at (121 ∷ []) 12 13 false) ∷ (word_at word.IN (105 ∷ 110 ∷ []) 14 16 false) ∷ (name_at (122 ∷ []) 17 18 false) ∷ (mark_at mark.CLOSE_BRACE 19 20 false) ∷ (mark_at mark.SEMICOLON 20 21 false) ∷ (mark_at mark.SEMICOLON 21 22 false) ∷ (mark_at mark.CLOSE_PAREN 22 23 false) ∷ (mark_at mark.SEMICOLON 23 24 false) ∷ (end_at 24 false) ∷ []) ≡ Accepted
unfolding answer
row_33 = refl

-- `for (var x, y in z);`
row_34 : answer 12 ((word_at word.FOR (102 ∷ 111 ∷ 114 ∷ []) 0 3 false) ∷ (mark_at mark.OPEN_PAREN 4 5 false) ∷ (word_at word.VAR (118 ∷ 97 ∷ 114 ∷ []) 5 8 false) ∷ (name_at (120 ∷ []) 9 10 false) ∷ (mark_at mark.COMMA 10 11 false) ∷ (name_at (121 ∷ []) 12 13 false) ∷ (word_at word.IN (105 ∷ 110 ∷ []) 14 16 false) ∷ (name_at (122 ∷ []) 17 18 false) ∷ (mark_at mark.CLOSE_PAREN 18 19 false) ∷ (mark_at mark.SEMICOLON 19 20 false) ∷ (end_at 20 false) ∷ []) ≡ Unexpected 14
unfolding answer
row_34 = refl

-- `for (let [a] in b);`
row_35 : answer 12 ((word_at word.FOR (102 ∷ 111 ∷ 114 ∷ []) 0 3 false) ∷ (mark_at mark.OPEN_PAREN 4 5 false) ∷ (word_at word.LET (108 ∷ 101 ∷ 116 ∷ []) 5 8 false) ∷ (mark_at mark.OPEN_BRACKET 9 10 false) ∷ (name_at (97 ∷ []) 10 11 false) ∷ (mark_at mark.CLOSE_BRACKET 11 12 false) ∷ (word_at word.IN (105 ∷ 110 ∷ []) 13 15 false) ∷ (name_at (98 ∷ []) 16 17 false) ∷ (mark_at mark.CLOSE_PAREN 17 18 false) ∷ (mark_at mark.SEMICOLON 18 19 false) ∷ (end_at 19 false) ∷ []) ≡ Unexpected 9
unfolding answer
row_35 = refl

-- `for (a of b);`
row_36 : answer 12 ((word_at word.FOR (102 ∷ 111 ∷ 114 ∷ []) 0 3 false) ∷ (mark_at mark.OPEN_PAREN 4 5 false) ∷ (name_at (97 ∷ []) 5 6 false) ∷ (name_at (111 ∷ 102 ∷ []) 7 9 false) ∷ (name_at (98 ∷ []) 10 11 false) ∷ (mark_at mark.CLOSE_PAREN 11 12 false) ∷ (mark_at mark.SEMICOLON 12 13 false) ∷ (end_at 13 false) ∷ []) ≡ Unexpected 7
unfolding answer
row_36 = refl

-- `for (new a().b in c);`
row_37 : answer 12 ((word_at word.FOR (102 ∷ 111 ∷ 114 ∷ []) 0 3 false) ∷ (mark_at mark.OPEN_PAREN 4 5 false) ∷ (word_at word.NEW (110 ∷ 101 ∷ 119 ∷ []) 5 8 false) ∷ (name_at (97 ∷ []) 9 10 false) ∷ (mark_at mark.OPEN_PAREN 10 11 false) ∷ (mark_at mark.CLOSE_PAREN 11 12 false) ∷ (mark_at mark.DOT 12 13 false) ∷ (name_at (98 ∷ []) 13 14 false) ∷ (word_at word.IN (105 ∷ 110 ∷ []) 15 17 false) ∷ (name_at (99 ∷ []) 18 19 false) ∷ (mark_at mark.CLOSE_PAREN 19 20 false) ∷ (mark_at mark.SEMICOLON 20 21 false) ∷ (end_at 21 false) ∷ []) ≡ Accepted
unfolding answer
row_37 = refl

-- `for ((a, b) in c);`
row_38 : answer 12 ((word_at word.FOR (102 ∷ 111 ∷ 114 ∷ []) 0 3 false) ∷ (mark_at mark.OPEN_PAREN 4 5 false) ∷ (mark_at mark.OPEN_PAREN 5 6 false) ∷ (name_at (97 ∷ []) 6 7 false) ∷ (mark_at mark.COMMA 7 8 false) ∷ (name_at (98 ∷ []) 9 10 false) ∷ (mark_at mark.CLOSE_PAREN 10 11 false) ∷ (word_at word.IN (105 ∷ 110 ∷ []) 12 14 false) ∷ (name_at (99 ∷ []) 15 16 false) ∷ (mark_at mark.CLOSE_PAREN 16 17 false) ∷ (mark_at mark.SEMICOLON 17 18 false) ∷ (end_at 18 false) ∷ []) ≡ Accepted
unfolding answer
row_38 = refl

-- `for (-a in b);`
row_39 : answer 12 ((word_at word.FOR (102 ∷ 111 ∷ 114 ∷ []) 0 3 false) ∷ (mark_at mark.OPEN_PAREN 4 5 false) ∷ (mark_at mark.MINUS 5 6 false) ∷ (name_at (97 ∷ []) 6 7 false) ∷ (word_at word.IN (105 ∷ 110 ∷ []) 8 10 false) ∷ (name_at (98 ∷ []) 11 12 false) ∷ (mark_at mark.CLOSE_PAREN 12 13 false) ∷ (mark_at mark.SEMICOLON 13 14 false) ∷ (end_at 14 false) ∷ []) ≡ Unexpected 8
unfolding answer
row_39 = refl

-- `for (`${a in b}`;;);`
row_40 : answer 12 ((word_at word.FOR (102 ∷ 111 ∷ 114 ∷ []) 0 3 false) ∷ (mark_at mark.OPEN_PAREN 4 5 false) ∷ (text_at kind.TemplateHead ([]) 5 8 false) ∷ (name_at (97 ∷ []) 8 9 false) ∷ (word_at word.IN (105 ∷ 110 ∷ []) 10 12 false) ∷ (name_at (98 ∷ []) 13 14 false) ∷ (text_at kind.TemplateTail ([]) 14 16 false) ∷ (mark_at mark.SEMICOLON 16 17 false) ∷ (mark_at mark.SEMICOLON 17 18 false) ∷ (mark_at mark.CLOSE_PAREN 18 19 false) ∷ (mark_at mark.SEMICOLON 19 20 false) ∷ (end_at 20 false) ∷ []) ≡ Accepted
unfolding answer
row_40 = refl

-- `for (f(a in b);;);`
row_41 : answer 12 ((word_at word.FOR (102 ∷ 111 ∷ 114 ∷ []) 0 3 false) ∷ (mark_at mark.OPEN_PAREN 4 5 false) ∷ (name_at (102 ∷ []) 5 6 false) ∷ (mark_at mark.OPEN_PAREN 6 7 false) ∷ (name_at (97 ∷ []) 7 8 false) ∷ (word_at word.IN (105 ∷ 110 ∷ []) 9 11 false) ∷ (name_at (98 ∷ []) 12 13 false) ∷ (mark_at mark.CLOSE_PAREN 13 14 false) ∷ (mark_at mark.SEMICOLON 14 15 false) ∷ (mark_at mark.SEMICOLON 15 16 false) ∷ (mark_at mark.CLOSE_PAREN 16 17 false) ∷ (mark_at mark.SEMICOLON 17 18 false) ∷ (end_at 18 false) ∷ []) ≡ Accepted
unfolding answer
row_41 = refl

-- `({get x(y){}})`
row_42 : answer 12 ((mark_at mark.OPEN_PAREN 0 1 false) ∷ (mark_at mark.OPEN_BRACE 1 2 false) ∷ (name_at (103 ∷ 101 ∷ 116 ∷ []) 2 5 false) ∷ (name_at (120 ∷ []) 6 7 false) ∷ (mark_at mark.OPEN_PAREN 7 8 false) ∷ (name_at (121 ∷ []) 8 9 false) ∷ (mark_at mark.CLOSE_PAREN 9 10 false) ∷ (mark_at mark.OPEN_BRACE 10 11 false) ∷ (mark_at mark.CLOSE_BRACE 11 12 false) ∷ (mark_at mark.CLOSE_BRACE 12 13 false) ∷ (mark_at mark.CLOSE_PAREN 13 14 false) ∷ (end_at 14 false) ∷ []) ≡ Unexpected 8
unfolding answer
row_42 = refl

-- `({set x(a=1){}})`
row_43 : answer 12 ((mark_at mark.OPEN_PAREN 0 1 false) ∷ (mark_at mark.OPEN_BRACE 1 2 false) ∷ (name_at (115 ∷ 101 ∷ 116 ∷ []) 2 5 false) ∷ (name_at (120 ∷ []) 6 7 false) ∷ (mark_at mark.OPEN_PAREN 7 8 false) ∷ (name_at (97 ∷ []) 8 9 false) ∷ (mark_at mark.ASSIGN 9 10 false) ∷ (number_at 1 10 11 false) ∷ (mark_at mark.CLOSE_PAREN 11 12 false) ∷ (mark_at mark.OPEN_BRACE 12 13 false) ∷ (mark_at mark.CLOSE_BRACE 13 14 false) ∷ (mark_at mark.CLOSE_BRACE 14 15 false) ∷ (mark_at mark.CLOSE_PAREN 15 16 false) ∷ (end_at 16 false) ∷ []) ≡ Accepted
unfolding answer
row_43 = refl

-- `({get x})`
row_44 : answer 12 ((mark_at mark.OPEN_PAREN 0 1 false) ∷ (mark_at mark.OPEN_BRACE 1 2 false) ∷ (name_at (103 ∷ 101 ∷ 116 ∷ []) 2 5 false) ∷ (name_at (120 ∷ []) 6 7 false) ∷ (mark_at mark.CLOSE_BRACE 7 8 false) ∷ (mark_at mark.CLOSE_PAREN 8 9 false) ∷ (end_at 9 false) ∷ []) ≡ Unexpected 7
unfolding answer
row_44 = refl

-- `({if})`
row_45 : answer 12 ((mark_at mark.OPEN_PAREN 0 1 false) ∷ (mark_at mark.OPEN_BRACE 1 2 false) ∷ (word_at word.IF (105 ∷ 102 ∷ []) 2 4 false) ∷ (mark_at mark.CLOSE_BRACE 4 5 false) ∷ (mark_at mark.CLOSE_PAREN 5 6 false) ∷ (end_at 6 false) ∷ []) ≡ Unexpected 4
unfolding answer
row_45 = refl

-- `({1})`
row_46 : answer 12 ((mark_at mark.OPEN_PAREN 0 1 false) ∷ (mark_at mark.OPEN_BRACE 1 2 false) ∷ (number_at 1 2 3 false) ∷ (mark_at mark.CLOSE_BRACE 3 4 false) ∷ (mark_at mark.CLOSE_PAREN 4 5 false) ∷ (end_at 5 false) ∷ []) ≡ Unexpected 3
unfolding answer
row_46 = refl

-- `({async f(){}})`
row_47 : answer 12 ((mark_at mark.OPEN_PAREN 0 1 false) ∷ (mark_at mark.OPEN_BRACE 1 2 false) ∷ (name_at (97 ∷ 115 ∷ 121 ∷ 110 ∷ 99 ∷ []) 2 7 false) ∷ (name_at (102 ∷ []) 8 9 false) ∷ (mark_at mark.OPEN_PAREN 9 10 false) ∷ (mark_at mark.CLOSE_PAREN 10 11 false) ∷ (mark_at mark.OPEN_BRACE 11 12 false) ∷ (mark_at mark.CLOSE_BRACE 12 13 false) ∷ (mark_at mark.CLOSE_BRACE 13 14 false) ∷ (mark_at mark.CLOSE_PAREN 14 15 false) ∷ (end_at 15 false) ∷ []) ≡ Unexpected 8
unfolding answer
row_47 = refl

-- `({a,})`
row_48 : answer 12 ((mark_at mark.OPEN_PAREN 0 1 false) ∷ (mark_at mark.OPEN_BRACE 1 2 false) ∷ (name_at (97 ∷ []) 2 3 false) ∷ (mark_at mark.COMMA 3 4 false) ∷ (mark_at mark.CLOSE_BRACE 4 5 false) ∷ (mark_at mark.CLOSE_PAREN 5 6 false) ∷ (end_at 6 false) ∷ []) ≡ Accepted
unfolding answer
row_48 = refl

-- `({[a in b]: 1})`
row_49 : answer 12 ((mark_at mark.OPEN_PAREN 0 1 false) ∷ (mark_at mark.OPEN_BRACE 1 2 false) ∷ (mark_at mark.OPEN_BRACKET 2 3 false) ∷ (name_at (97 ∷ []) 3 4 false) ∷ (word_at word.IN (105 ∷ 110 ∷ []) 5 7 false) ∷ (name_at (98 ∷ []) 8 9 false) ∷ (mark_at mark.CLOSE_BRACKET 9 10 false) ∷ (mark_at mark.COLON 10 11 false) ∷ (number_at 1 12 13 false) ∷ (mark_at mark.CLOSE_BRACE 13 14 false) ∷ (mark_at mark.CLOSE_PAREN 14 15 false) ∷ (end_at 15 false) ∷ []) ≡ Accepted
unfolding answer
row_49 = refl

-- `[,,a,,]`
row_50 : answer 12 ((mark_at mark.OPEN_BRACKET 0 1 false) ∷ (mark_at mark.COMMA 1 2 false) ∷ (mark_at mark.COMMA 2 3 false) ∷ (name_at (97 ∷ []) 3 4 false) ∷ (mark_at mark.COMMA 4 5 false) ∷ (mark_at mark.COMMA 5 6 false) ∷ (mark_at mark.CLOSE_BRACKET 6 7 false) ∷ (end_at 7 false) ∷ []) ≡ Accepted
unfolding answer
row_50 = refl

-- `f(a,,b)`
row_51 : answer 12 ((name_at (102 ∷ []) 0 1 false) ∷ (mark_at mark.OPEN_PAREN 1 2 false) ∷ (name_at (97 ∷ []) 2 3 false) ∷ (mark_at mark.COMMA 3 4 false) ∷ (mark_at mark.COMMA 4 5 false) ∷ (name_at (98 ∷ []) 5 6 false) ∷ (mark_at mark.CLOSE_PAREN 6 7 false) ∷ (end_at 7 false) ∷ []) ≡ Unexpected 4
unfolding answer
row_51 = refl

-- `function f(a,){}`
row_52 : answer 12 ((word_at word.FUNCTION (102 ∷ 117 ∷ 110 ∷ 99 ∷ 116 ∷ 105 ∷ 111 ∷ 110 ∷ []) 0 8 false) ∷ (name_at (102 ∷ []) 9 10 false) ∷ (mark_at mark.OPEN_PAREN 10 11 false) ∷ (name_at (97 ∷ []) 11 12 false) ∷ (mark_at mark.COMMA 12 13 false) ∷ (mark_at mark.CLOSE_PAREN 13 14 false) ∷ (mark_at mark.OPEN_BRACE 14 15 false) ∷ (mark_at mark.CLOSE_BRACE 15 16 false) ∷ (end_at 16 false) ∷ []) ≡ Accepted
unfolding answer
row_52 = refl

-- `function (){}`
row_53 : answer 12 ((word_at word.FUNCTION (102 ∷ 117 ∷ 110 ∷ 99 ∷ 116 ∷ 105 ∷ 111 ∷ 110 ∷ []) 0 8 false) ∷ (mark_at mark.OPEN_PAREN 9 10 false) ∷ (mark_at mark.CLOSE_PAREN 10 11 false) ∷ (mark_at mark.OPEN_BRACE 11 12 false) ∷ (mark_at mark.CLOSE_BRACE 12 13 false) ∷ (end_at 13 false) ∷ []) ≡ Unexpected 9
unfolding answer
row_53 = refl

-- `try {}`
row_54 : answer 12 ((word_at word.TRY (116 ∷ 114 ∷ 121 ∷ []) 0 3 false) ∷ (mark_at mark.OPEN_BRACE 4 5 false) ∷ (mark_at mark.CLOSE_BRACE 5 6 false) ∷ (end_at 6 false) ∷ []) ≡ Unexpected 6
unfolding answer
row_54 = refl

-- `try {} catch (a, b) {}`
row_55 : answer 12 ((word_at word.TRY (116 ∷ 114 ∷ 121 ∷ []) 0 3 false) ∷ (mark_at mark.OPEN_BRACE 4 5 false) ∷ (mark_at mark.CLOSE_BRACE 5 6 false) ∷ (word_at word.CATCH (99 ∷ 97 ∷ 116 ∷ 99 ∷ 104 ∷ []) 7 12 false) ∷ (mark_at mark.OPEN_PAREN 13 14 false) ∷ (name_at (97 ∷ []) 14 15 false) ∷ (mark_at mark.COMMA 15 16 false) ∷ (name_at (98 ∷ []) 17 18 false) ∷ (mark_at mark.CLOSE_PAREN 18 19 false) ∷ (mark_at mark.OPEN_BRACE 20 21 false) ∷ (mark_at mark.CLOSE_BRACE 21 22 false) ∷ (end_at 22 false) ∷ []) ≡ Unexpected 15
unfolding answer
row_55 = refl

-- `switch (a) { default: default: }`
row_56 : answer 12 ((word_at word.SWITCH (115 ∷ 119 ∷ 105 ∷ 116 ∷ 99 ∷ 104 ∷ []) 0 6 false) ∷ (mark_at mark.OPEN_PAREN 7 8 false) ∷ (name_at (97 ∷ []) 8 9 false) ∷ (mark_at mark.CLOSE_PAREN 9 10 false) ∷ (mark_at mark.OPEN_BRACE 11 12 false) ∷ (word_at word.DEFAULT (100 ∷ 101 ∷ 102 ∷ 97 ∷ 117 ∷ 108 ∷ 116 ∷ []) 13 20 false) ∷ (mark_at mark.COLON 20 21 false) ∷ (word_at word.DEFAULT (100 ∷ 101 ∷ 102 ∷ 97 ∷ 117 ∷ 108 ∷ 116 ∷ []) 22 29 false) ∷ (mark_at mark.COLON 29 30 false) ∷ (mark_at mark.CLOSE_BRACE 31 32 false) ∷ (end_at 32 false) ∷ []) ≡ Unexpected 22
unfolding answer
row_56 = refl

-- `switch (a) { case a ? b : c: d: e }`
row_57 : answer 12 ((word_at word.SWITCH (115 ∷ 119 ∷ 105 ∷ 116 ∷ 99 ∷ 104 ∷ []) 0 6 false) ∷ (mark_at mark.OPEN_PAREN 7 8 false) ∷ (name_at (97 ∷ []) 8 9 false) ∷ (mark_at mark.CLOSE_PAREN 9 10 false) ∷ (mark_at mark.OPEN_BRACE 11 12 false) ∷ (word_at word.CASE (99 ∷ 97 ∷ 115 ∷ 101 ∷ []) 13 17 false) ∷ (name_at (97 ∷ []) 18 19 false) ∷ (mark_at mark.QUESTION 20 21 false) ∷ (name_at (98 ∷ []) 22 23 false) ∷ (mark_at mark.COLON 24 25 false) ∷ (name_at (99 ∷ []) 26 27 false) ∷ (mark_at mark.COLON 27 28 false) ∷ (name_at (100 ∷ []) 29 30 false) ∷ (mark_at mark.COLON 30 31 false) ∷ (name_at (101 ∷ []) 32 33 false) ∷ (mark_at mark.CLOSE_BRACE 34 35 false) ∷ (end_at 35 false) ∷ []) ≡ Accepted
unfolding answer
row_57 = refl

-- `new new a(b)(c)`
row_58 : answer 12 ((word_at word.NEW (110 ∷ 101 ∷ 119 ∷ []) 0 3 false) ∷ (word_at word.NEW (110 ∷ 101 ∷ 119 ∷ []) 4 7 false) ∷ (name_at (97 ∷ []) 8 9 false) ∷ (mark_at mark.OPEN_PAREN 9 10 false) ∷ (name_at (98 ∷ []) 10 11 false) ∷ (mark_at mark.CLOSE_PAREN 11 12 false) ∷ (mark_at mark.OPEN_PAREN 12 13 false) ∷ (name_at (99 ∷ []) 13 14 false) ∷ (mark_at mark.CLOSE_PAREN 14 15 false) ∷ (end_at 15 false) ∷ []) ≡ Accepted
unfolding answer
row_58 = refl

-- `-a ** b`
row_59 : answer 12 ((mark_at mark.MINUS 0 1 false) ∷ (name_at (97 ∷ []) 1 2 false) ∷ (mark_at mark.POWER 3 5 false) ∷ (name_at (98 ∷ []) 6 7 false) ∷ (end_at 7 false) ∷ []) ≡ Unexpected 3
unfolding answer
row_59 = refl

-- `a ** -b ** c`
row_60 : answer 12 ((name_at (97 ∷ []) 0 1 false) ∷ (mark_at mark.POWER 2 4 false) ∷ (mark_at mark.MINUS 5 6 false) ∷ (name_at (98 ∷ []) 6 7 false) ∷ (mark_at mark.POWER 8 10 false) ∷ (name_at (99 ∷ []) 11 12 false) ∷ (end_at 12 false) ∷ []) ≡ Unexpected 8
unfolding answer
row_60 = refl

-- `a++ ** b`
row_61 : answer 12 ((name_at (97 ∷ []) 0 1 false) ∷ (mark_at mark.INCREMENT 1 3 false) ∷ (mark_at mark.POWER 4 6 false) ∷ (name_at (98 ∷ []) 7 8 false) ∷ (end_at 8 false) ∷ []) ≡ Accepted
unfolding answer
row_61 = refl

-- `a ?? b && c`
row_62 : answer 12 ((name_at (97 ∷ []) 0 1 false) ∷ (mark_at mark.COALESCE 2 4 false) ∷ (name_at (98 ∷ []) 5 6 false) ∷ (mark_at mark.AND 7 9 false) ∷ (name_at (99 ∷ []) 10 11 false) ∷ (end_at 11 false) ∷ []) ≡ Unexpected 7
unfolding answer
row_62 = refl

-- `a | b ?? c ?? d`
row_63 : answer 12 ((name_at (97 ∷ []) 0 1 false) ∷ (mark_at mark.BIT_OR 2 3 false) ∷ (name_at (98 ∷ []) 4 5 false) ∷ (mark_at mark.COALESCE 6 8 false) ∷ (name_at (99 ∷ []) 9 10 false) ∷ (mark_at mark.COALESCE 11 13 false) ∷ (name_at (100 ∷ []) 14 15 false) ∷ (end_at 15 false) ∷ []) ≡ Accepted
unfolding answer
row_63 = refl

-- `a?.b`
row_64 : answer 12 ((name_at (97 ∷ []) 0 1 false) ∷ (mark_at mark.OPTIONAL_DOT 1 3 false) ∷ (name_at (98 ∷ []) 3 4 false) ∷ (end_at 4 false) ∷ []) ≡ Unexpected 1
unfolding answer
row_64 = refl

-- `a..b`
row_65 : answer 12 ((name_at (97 ∷ []) 0 1 false) ∷ (mark_at mark.DOT 1 2 false) ∷ (mark_at mark.DOT 2 3 false) ∷ (name_at (98 ∷ []) 3 4 false) ∷ (end_at 4 false) ∷ []) ≡ Unexpected 2
unfolding answer
row_65 = refl

-- `1.`
row_66 : answer 12 ((bad_at 0 false) ∷ []) ≡ Unexpected 0
unfolding answer
row_66 = refl

-- `0x1.a`
row_67 : answer 12 ((number_at 1 0 3 false) ∷ (mark_at mark.DOT 3 4 false) ∷ (name_at (97 ∷ []) 4 5 false) ∷ (end_at 5 false) ∷ []) ≡ Accepted
unfolding answer
row_67 = refl

-- `0_1`
row_68 : answer 12 ((bad_at 0 false) ∷ []) ≡ Unexpected 0
unfolding answer
row_68 = refl

-- `1_`
row_69 : answer 12 ((bad_at 0 false) ∷ []) ≡ Unexpected 0
unfolding answer
row_69 = refl

-- `0b12`
row_70 : answer 12 ((bad_at 0 false) ∷ []) ≡ Unexpected 0
unfolding answer
row_70 = refl

-- `1n`
row_71 : answer 12 ((bad_at 0 false) ∷ []) ≡ Unexpected 0
unfolding answer
row_71 = refl

-- `1a`
row_72 : answer 12 ((bad_at 0 false) ∷ []) ≡ Unexpected 0
unfolding answer
row_72 = refl

-- `1\\u0041`
row_73 : answer 12 ((number_at 1 0 1 false) ∷ (bad_at 1 false) ∷ []) ≡ Unexpected 1
unfolding answer
row_73 = refl

-- `"\08"`
row_74 : answer 12 ((bad_at 0 false) ∷ []) ≡ Unexpected 0
unfolding answer
row_74 = refl

-- `"\u{110000}"`
row_75 : answer 12 ((bad_at 0 false) ∷ []) ≡ Unexpected 0
unfolding answer
row_75 = refl

-- ``\u{}``
row_76 : answer 12 ((bad_at 0 false) ∷ []) ≡ Unexpected 0
unfolding answer
row_76 = refl

-- ``a${b}`
row_77 : answer 12 ((text_at kind.TemplateHead (97 ∷ []) 0 4 false) ∷ (name_at (98 ∷ []) 4 5 false) ∷ (bad_at 5 false) ∷ []) ≡ Unexpected 5
unfolding answer
row_77 = refl

-- ``a${{b}``
row_78 : answer 12 ((text_at kind.TemplateHead (97 ∷ []) 0 4 false) ∷ (mark_at mark.OPEN_BRACE 4 5 false) ∷ (name_at (98 ∷ []) 5 6 false) ∷ (mark_at mark.CLOSE_BRACE 6 7 false) ∷ (bad_at 7 false) ∷ []) ≡ Unexpected 7
unfolding answer
row_78 = refl

-- `a< !--b`
row_79 : answer 12 ((name_at (97 ∷ []) 0 1 false) ∷ (mark_at mark.LESS 1 2 false) ∷ (mark_at mark.NOT 3 4 false) ∷ (mark_at mark.DECREMENT 4 6 false) ∷ (name_at (98 ∷ []) 6 7 false) ∷ (end_at 7 false) ∷ []) ≡ Accepted
unfolding answer
row_79 = refl

-- `/* \n */ a`
row_80 : answer 12 ((name_at (97 ∷ []) 8 9 true) ∷ (end_at 9 false) ∷ []) ≡ Accepted
unfolding answer
row_80 = refl

-- `a // x\nb`
row_81 : answer 12 ((name_at (97 ∷ []) 0 1 false) ∷ (name_at (98 ∷ []) 7 8 true) ∷ (end_at 8 false) ∷ []) ≡ Accepted
unfolding answer
row_81 = refl

-- `@`
row_82 : answer 12 ((bad_at 0 false) ∷ []) ≡ Unexpected 0
unfolding answer
row_82 = refl

-- `import x`
row_83 : answer 12 ((word_at word.IMPORT (105 ∷ 109 ∷ 112 ∷ 111 ∷ 114 ∷ 116 ∷ []) 0 6 false) ∷ (name_at (120 ∷ []) 7 8 false) ∷ (end_at 8 false) ∷ []) ≡ Unexpected 0
unfolding answer
row_83 = refl

-- `await`
row_84 : answer 12 ((name_at (97 ∷ 119 ∷ 97 ∷ 105 ∷ 116 ∷ []) 0 5 false) ∷ (end_at 5 false) ∷ []) ≡ Accepted
unfolding answer
row_84 = refl

-- `static`
row_85 : answer 12 ((word_at word.STATIC (115 ∷ 116 ∷ 97 ∷ 116 ∷ 105 ∷ 99 ∷ []) 0 6 false) ∷ (end_at 6 false) ∷ []) ≡ Unexpected 0
unfolding answer
row_85 = refl

-- ``
row_86 : answer 12 ((end_at 0 false) ∷ []) ≡ Accepted
unfolding answer
row_86 = refl

-- `1 + 2;`
row_87 : answer 12 ((number_at 1 0 1 false) ∷ (mark_at mark.PLUS 2 3 false) ∷ (number_at 2 4 5 false) ∷ (mark_at mark.SEMICOLON 5 6 false) ∷ (end_at 6 false) ∷ []) ≡ Accepted
unfolding answer
row_87 = refl

-- `9007199254740992`
row_88 : answer 12 ((bad_at 0 false) ∷ []) ≡ Unexpected 0
unfolding answer
row_88 = refl

-- `a\n(b)`
row_89 : answer 12 ((name_at (97 ∷ []) 0 1 false) ∷ (mark_at mark.OPEN_PAREN 2 3 true) ∷ (name_at (98 ∷ []) 3 4 false) ∷ (mark_at mark.CLOSE_PAREN 4 5 false) ∷ (end_at 5 false) ∷ []) ≡ Accepted
unfolding answer
row_89 = refl

-- `a\n++b`
row_90 : answer 12 ((name_at (97 ∷ []) 0 1 false) ∷ (mark_at mark.INCREMENT 2 4 true) ∷ (name_at (98 ∷ []) 4 5 false) ∷ (end_at 5 false) ∷ []) ≡ Accepted
unfolding answer
row_90 = refl

-- `x => {}\n(y)`
row_91 : answer 12 ((name_at (120 ∷ []) 0 1 false) ∷ (mark_at mark.ARROW 2 4 false) ∷ (mark_at mark.OPEN_BRACE 5 6 false) ∷ (mark_at mark.CLOSE_BRACE 6 7 false) ∷ (mark_at mark.OPEN_PAREN 8 9 true) ∷ (name_at (121 ∷ []) 9 10 false) ∷ (mark_at mark.CLOSE_PAREN 10 11 false) ∷ (end_at 11 false) ∷ []) ≡ Accepted
unfolding answer
row_91 = refl

-- `let a; let a; )`
row_92 : answer 12 ((word_at word.LET (108 ∷ 101 ∷ 116 ∷ []) 0 3 false) ∷ (name_at (97 ∷ []) 4 5 false) ∷ (mark_at mark.SEMICOLON 5 6 false) ∷ (word_at word.LET (108 ∷ 101 ∷ 116 ∷ []) 7 10 false) ∷ (name_at (97 ∷ []) 11 12 false) ∷ (mark_at mark.SEMICOLON 12 13 false) ∷ (mark_at mark.CLOSE_PAREN 14 15 false) ∷ (end_at 15 false) ∷ []) ≡ Unexpected 14
unfolding answer
row_92 = refl

-- `(a,) + 1`
row_93 : answer 12 ((mark_at mark.OPEN_PAREN 0 1 false) ∷ (name_at (97 ∷ []) 1 2 false) ∷ (mark_at mark.COMMA 2 3 false) ∷ (mark_at mark.CLOSE_PAREN 3 4 false) ∷ (mark_at mark.PLUS 5 6 false) ∷ (number_at 1 7 8 false) ∷ (end_at 8 false) ∷ []) ≡ Unexpected 5
unfolding answer
row_93 = refl

-- `a ?? b || c`
row_94 : answer 12 ((name_at (97 ∷ []) 0 1 false) ∷ (mark_at mark.COALESCE 2 4 false) ∷ (name_at (98 ∷ []) 5 6 false) ∷ (mark_at mark.OR 7 9 false) ∷ (name_at (99 ∷ []) 10 11 false) ∷ (end_at 11 false) ∷ []) ≡ Unexpected 7
unfolding answer
row_94 = refl

-- `(a, 1) => b`
row_95 : answer 12 ((mark_at mark.OPEN_PAREN 0 1 false) ∷ (name_at (97 ∷ []) 1 2 false) ∷ (mark_at mark.COMMA 2 3 false) ∷ (number_at 1 4 5 false) ∷ (mark_at mark.CLOSE_PAREN 5 6 false) ∷ (mark_at mark.ARROW 7 9 false) ∷ (name_at (98 ∷ []) 10 11 false) ∷ (end_at 11 false) ∷ []) ≡ Unexpected 7
unfolding answer
row_95 = refl

-- `(]`
row_96 : answer 12 ((mark_at mark.OPEN_PAREN 0 1 false) ∷ (mark_at mark.CLOSE_BRACKET 1 2 false) ∷ (end_at 2 false) ∷ []) ≡ Unexpected 1
unfolding answer
row_96 = refl

-- `function f(){`
row_97 : answer 12 ((word_at word.FUNCTION (102 ∷ 117 ∷ 110 ∷ 99 ∷ 116 ∷ 105 ∷ 111 ∷ 110 ∷ []) 0 8 false) ∷ (name_at (102 ∷ []) 9 10 false) ∷ (mark_at mark.OPEN_PAREN 10 11 false) ∷ (mark_at mark.CLOSE_PAREN 11 12 false) ∷ (mark_at mark.OPEN_BRACE 12 13 false) ∷ (end_at 13 false) ∷ []) ≡ Unexpected 13
unfolding answer
row_97 = refl

-- `x = {a: 1, ...b}`
row_98 : answer 12 ((name_at (120 ∷ []) 0 1 false) ∷ (mark_at mark.ASSIGN 2 3 false) ∷ (mark_at mark.OPEN_BRACE 4 5 false) ∷ (name_at (97 ∷ []) 5 6 false) ∷ (mark_at mark.COLON 6 7 false) ∷ (number_at 1 8 9 false) ∷ (mark_at mark.COMMA 9 10 false) ∷ (mark_at mark.ELLIPSIS 11 14 false) ∷ (name_at (98 ∷ []) 14 15 false) ∷ (mark_at mark.CLOSE_BRACE 15 16 false) ∷ (end_at 16 false) ∷ []) ≡ Unexpected 11
unfolding answer
row_98 = refl

-- `class A {}`
row_99 : answer 12 ((word_at word.CLASS (99 ∷ 108 ∷ 97 ∷ 115 ∷ 115 ∷ []) 0 5 false) ∷ (name_at (65 ∷ []) 6 7 false) ∷ (mark_at mark.OPEN_BRACE 8 9 false) ∷ (mark_at mark.CLOSE_BRACE 9 10 false) ∷ (end_at 10 false) ∷ []) ≡ Unexpected 0
unfolding answer
row_99 = refl

-- `async function f(){}`
row_100 : answer 12 ((name_at (97 ∷ 115 ∷ 121 ∷ 110 ∷ 99 ∷ []) 0 5 false) ∷ (word_at word.FUNCTION (102 ∷ 117 ∷ 110 ∷ 99 ∷ 116 ∷ 105 ∷ 111 ∷ 110 ∷ []) 6 14 false) ∷ (name_at (102 ∷ []) 15 16 false) ∷ (mark_at mark.OPEN_PAREN 16 17 false) ∷ (mark_at mark.CLOSE_PAREN 17 18 false) ∷ (mark_at mark.OPEN_BRACE 18 19 false) ∷ (mark_at mark.CLOSE_BRACE 19 20 false) ∷ (end_at 20 false) ∷ []) ≡ Unexpected 6
unfolding answer
row_100 = refl

-- `/x/`
row_101 : answer 12 ((mark_at mark.DIVIDE 0 1 false) ∷ (name_at (120 ∷ []) 1 2 false) ∷ (mark_at mark.DIVIDE 2 3 false) ∷ (end_at 3 false) ∷ []) ≡ Unexpected 0
unfolding answer
row_101 = refl

-- `if (a) let b`
row_102 : answer 12 ((word_at word.IF (105 ∷ 102 ∷ []) 0 2 false) ∷ (mark_at mark.OPEN_PAREN 3 4 false) ∷ (name_at (97 ∷ []) 4 5 false) ∷ (mark_at mark.CLOSE_PAREN 5 6 false) ∷ (word_at word.LET (108 ∷ 101 ∷ 116 ∷ []) 7 10 false) ∷ (name_at (98 ∷ []) 11 12 false) ∷ (end_at 12 false) ∷ []) ≡ Unexpected 7
unfolding answer
row_102 = refl

-- `return 1`
row_103 : answer 12 ((word_at word.RETURN (114 ∷ 101 ∷ 116 ∷ 117 ∷ 114 ∷ 110 ∷ []) 0 6 false) ∷ (number_at 1 7 8 false) ∷ (end_at 8 false) ∷ []) ≡ Unexpected 0
unfolding answer
row_103 = refl

-- `x++\n(y)`
row_104 : answer 12 ((name_at (120 ∷ []) 0 1 false) ∷ (mark_at mark.INCREMENT 1 3 false) ∷ (mark_at mark.OPEN_PAREN 4 5 true) ∷ (name_at (121 ∷ []) 5 6 false) ∷ (mark_at mark.CLOSE_PAREN 6 7 false) ∷ (end_at 7 false) ∷ []) ≡ Accepted
unfolding answer
row_104 = refl

-- `-x++\n/y/z`
row_105 : answer 12 ((mark_at mark.MINUS 0 1 false) ∷ (name_at (120 ∷ []) 1 2 false) ∷ (mark_at mark.INCREMENT 2 4 false) ∷ (mark_at mark.DIVIDE 5 6 true) ∷ (name_at (121 ∷ []) 6 7 false) ∷ (mark_at mark.DIVIDE 7 8 false) ∷ (name_at (122 ∷ []) 8 9 false) ∷ (end_at 9 false) ∷ []) ≡ Accepted
unfolding answer
row_105 = refl

-- `do ; while (0) x`
row_106 : answer 12 ((word_at word.DO (100 ∷ 111 ∷ []) 0 2 false) ∷ (mark_at mark.SEMICOLON 3 4 false) ∷ (word_at word.WHILE (119 ∷ 104 ∷ 105 ∷ 108 ∷ 101 ∷ []) 5 10 false) ∷ (mark_at mark.OPEN_PAREN 11 12 false) ∷ (number_at 0 12 13 false) ∷ (mark_at mark.CLOSE_PAREN 13 14 false) ∷ (name_at (120 ∷ []) 15 16 false) ∷ (end_at 16 false) ∷ []) ≡ Accepted
unfolding answer
row_106 = refl

-- `let f = x => {}\n[1]`
row_107 : answer 12 ((word_at word.LET (108 ∷ 101 ∷ 116 ∷ []) 0 3 false) ∷ (name_at (102 ∷ []) 4 5 false) ∷ (mark_at mark.ASSIGN 6 7 false) ∷ (name_at (120 ∷ []) 8 9 false) ∷ (mark_at mark.ARROW 10 12 false) ∷ (mark_at mark.OPEN_BRACE 13 14 false) ∷ (mark_at mark.CLOSE_BRACE 14 15 false) ∷ (mark_at mark.OPEN_BRACKET 16 17 true) ∷ (number_at 1 17 18 false) ∷ (mark_at mark.CLOSE_BRACKET 18 19 false) ∷ (end_at 19 false) ∷ []) ≡ Accepted
unfolding answer
row_107 = refl

-- `a\n=> b`
row_108 : answer 12 ((name_at (97 ∷ []) 0 1 false) ∷ (mark_at mark.ARROW 2 4 true) ∷ (name_at (98 ∷ []) 5 6 false) ∷ (end_at 6 false) ∷ []) ≡ Unexpected 2
unfolding answer
row_108 = refl

-- `throw\na`
row_109 : answer 12 ((word_at word.THROW (116 ∷ 104 ∷ 114 ∷ 111 ∷ 119 ∷ []) 0 5 false) ∷ (name_at (97 ∷ []) 6 7 true) ∷ (end_at 7 false) ∷ []) ≡ Unexpected 6
unfolding answer
row_109 = refl

-- ``a${b `
row_110 : answer 12 ((text_at kind.TemplateHead (97 ∷ []) 0 4 false) ∷ (name_at (98 ∷ []) 4 5 false) ∷ (end_at 6 false) ∷ []) ≡ Unexpected 6
unfolding answer
row_110 = refl

-- `a\n`x``
row_111 : answer 12 ((name_at (97 ∷ []) 0 1 false) ∷ (text_at kind.TemplateWhole (120 ∷ []) 2 5 true) ∷ (end_at 5 false) ∷ []) ≡ Unexpected 2
unfolding answer
row_111 = refl

-- ``x` = 1`
row_112 : answer 12 ((text_at kind.TemplateWhole (120 ∷ []) 0 3 false) ∷ (mark_at mark.ASSIGN 4 5 false) ∷ (number_at 1 6 7 false) ∷ (end_at 7 false) ∷ []) ≡ Accepted
unfolding answer
row_112 = refl

-- ``a${x}b`;`
row_113 : answer 12 ((text_at kind.TemplateHead (97 ∷ []) 0 4 false) ∷ (name_at (120 ∷ []) 4 5 false) ∷ (text_at kind.TemplateTail (98 ∷ []) 5 8 false) ∷ (mark_at mark.SEMICOLON 8 9 false) ∷ (end_at 9 false) ∷ []) ≡ Accepted
unfolding answer
row_113 = refl

-- ``${() => `${x}`}``
row_114 : answer 12 ((text_at kind.TemplateHead ([]) 0 3 false) ∷ (mark_at mark.OPEN_PAREN 3 4 false) ∷ (mark_at mark.CLOSE_PAREN 4 5 false) ∷ (mark_at mark.ARROW 6 8 false) ∷ (text_at kind.TemplateHead ([]) 9 12 false) ∷ (name_at (120 ∷ []) 12 13 false) ∷ (text_at kind.TemplateTail ([]) 13 15 false) ∷ (text_at kind.TemplateTail ([]) 15 17 false) ∷ (end_at 17 false) ∷ []) ≡ Accepted
unfolding answer
row_114 = refl

-- `function f(a, b = a, ...c) { return c }`
row_115 : answer 12 ((word_at word.FUNCTION (102 ∷ 117 ∷ 110 ∷ 99 ∷ 116 ∷ 105 ∷ 111 ∷ 110 ∷ []) 0 8 false) ∷ (name_at (102 ∷ []) 9 10 false) ∷ (mark_at mark.OPEN_PAREN 10 11 false) ∷ (name_at (97 ∷ []) 11 12 false) ∷ (mark_at mark.COMMA 12 13 false) ∷ (name_at (98 ∷ []) 14 15 false) ∷ (mark_at mark.ASSIGN 16 17 false) ∷ (name_at (97 ∷ []) 18 19 false) ∷ (mark_at mark.COMMA 19 20 false) ∷ (mark_at mark.ELLIPSIS 21 24 false) ∷ (name_at (99 ∷ []) 24 25 false) ∷ (mark_at mark.CLOSE_PAREN 25 26 false) ∷ (mark_at mark.OPEN_BRACE 27 28 false) ∷ (word_at word.RETURN (114 ∷ 101 ∷ 116 ∷ 117 ∷ 114 ∷ 110 ∷ []) 29 35 false) ∷ (name_at (99 ∷ []) 36 37 false) ∷ (mark_at mark.CLOSE_BRACE 38 39 false) ∷ (end_at 39 false) ∷ []) ≡ Accepted
unfolding answer
row_115 = refl

-- `function f(a, g = () => a) { var a; return g }`
row_116 : answer 12 ((word_at word.FUNCTION (102 ∷ 117 ∷ 110 ∷ 99 ∷ 116 ∷ 105 ∷ 111 ∷ 110 ∷ []) 0 8 false) ∷ (name_at (102 ∷ []) 9 10 false) ∷ (mark_at mark.OPEN_PAREN 10 11 false) ∷ (name_at (97 ∷ []) 11 12 false) ∷ (mark_at mark.COMMA 12 13 false) ∷ (name_at (103 ∷ []) 14 15 false) ∷ (mark_at mark.ASSIGN 16 17 false) ∷ (mark_at mark.OPEN_PAREN 18 19 false) ∷ (mark_at mark.CLOSE_PAREN 19 20 false) ∷ (mark_at mark.ARROW 21 23 false) ∷ (name_at (97 ∷ []) 24 25 false) ∷ (mark_at mark.CLOSE_PAREN 25 26 false) ∷ (mark_at mark.OPEN_BRACE 27 28 false) ∷ (word_at word.VAR (118 ∷ 97 ∷ 114 ∷ []) 29 32 false) ∷ (name_at (97 ∷ []) 33 34 false) ∷ (mark_at mark.SEMICOLON 34 35 false) ∷ (word_at word.RETURN (114 ∷ 101 ∷ 116 ∷ 117 ∷ 114 ∷ 110 ∷ []) 36 42 false) ∷ (name_at (103 ∷ []) 43 44 false) ∷ (mark_at mark.CLOSE_BRACE 45 46 false) ∷ (end_at 46 false) ∷ []) ≡ Accepted
unfolding answer
row_116 = refl

-- `(a, ...b) + 1`
row_117 : answer 12 ((mark_at mark.OPEN_PAREN 0 1 false) ∷ (name_at (97 ∷ []) 1 2 false) ∷ (mark_at mark.COMMA 2 3 false) ∷ (mark_at mark.ELLIPSIS 4 7 false) ∷ (name_at (98 ∷ []) 7 8 false) ∷ (mark_at mark.CLOSE_PAREN 8 9 false) ∷ (mark_at mark.PLUS 10 11 false) ∷ (number_at 1 12 13 false) ∷ (end_at 13 false) ∷ []) ≡ Unexpected 10
unfolding answer
row_117 = refl

-- `(...a,)`
row_118 : answer 12 ((mark_at mark.OPEN_PAREN 0 1 false) ∷ (mark_at mark.ELLIPSIS 1 4 false) ∷ (name_at (97 ∷ []) 4 5 false) ∷ (mark_at mark.COMMA 5 6 false) ∷ (mark_at mark.CLOSE_PAREN 6 7 false) ∷ (end_at 7 false) ∷ []) ≡ Unexpected 5
unfolding answer
row_118 = refl

-- `(a = 1, b.c) => d`
row_119 : answer 12 ((mark_at mark.OPEN_PAREN 0 1 false) ∷ (name_at (97 ∷ []) 1 2 false) ∷ (mark_at mark.ASSIGN 3 4 false) ∷ (number_at 1 5 6 false) ∷ (mark_at mark.COMMA 6 7 false) ∷ (name_at (98 ∷ []) 8 9 false) ∷ (mark_at mark.DOT 9 10 false) ∷ (name_at (99 ∷ []) 10 11 false) ∷ (mark_at mark.CLOSE_PAREN 11 12 false) ∷ (mark_at mark.ARROW 13 15 false) ∷ (name_at (100 ∷ []) 16 17 false) ∷ (end_at 17 false) ∷ []) ≡ Unexpected 13
unfolding answer
row_119 = refl

-- `(a => {}, b) => c`
row_120 : answer 12 ((mark_at mark.OPEN_PAREN 0 1 false) ∷ (name_at (97 ∷ []) 1 2 false) ∷ (mark_at mark.ARROW 3 5 false) ∷ (mark_at mark.OPEN_BRACE 6 7 false) ∷ (mark_at mark.CLOSE_BRACE 7 8 false) ∷ (mark_at mark.COMMA 8 9 false) ∷ (name_at (98 ∷ []) 10 11 false) ∷ (mark_at mark.CLOSE_PAREN 11 12 false) ∷ (mark_at mark.ARROW 13 15 false) ∷ (name_at (99 ∷ []) 16 17 false) ∷ (end_at 17 false) ∷ []) ≡ Unexpected 13
unfolding answer
row_120 = refl

-- `(a.b,)`
row_121 : answer 12 ((mark_at mark.OPEN_PAREN 0 1 false) ∷ (name_at (97 ∷ []) 1 2 false) ∷ (mark_at mark.DOT 2 3 false) ∷ (name_at (98 ∷ []) 3 4 false) ∷ (mark_at mark.COMMA 4 5 false) ∷ (mark_at mark.CLOSE_PAREN 5 6 false) ∷ (end_at 6 false) ∷ []) ≡ Unexpected 5
unfolding answer
row_121 = refl

-- `try{}catch(e){var e = 1}`
row_122 : answer 12 ((word_at word.TRY (116 ∷ 114 ∷ 121 ∷ []) 0 3 false) ∷ (mark_at mark.OPEN_BRACE 3 4 false) ∷ (mark_at mark.CLOSE_BRACE 4 5 false) ∷ (word_at word.CATCH (99 ∷ 97 ∷ 116 ∷ 99 ∷ 104 ∷ []) 5 10 false) ∷ (mark_at mark.OPEN_PAREN 10 11 false) ∷ (name_at (101 ∷ []) 11 12 false) ∷ (mark_at mark.CLOSE_PAREN 12 13 false) ∷ (mark_at mark.OPEN_BRACE 13 14 false) ∷ (word_at word.VAR (118 ∷ 97 ∷ 114 ∷ []) 14 17 false) ∷ (name_at (101 ∷ []) 18 19 false) ∷ (mark_at mark.ASSIGN 20 21 false) ∷ (number_at 1 22 23 false) ∷ (mark_at mark.CLOSE_BRACE 23 24 false) ∷ (end_at 24 false) ∷ []) ≡ Accepted
unfolding answer
row_122 = refl

-- `for (let i = 0; i < 2; i++) f(() => i);`
row_123 : answer 12 ((word_at word.FOR (102 ∷ 111 ∷ 114 ∷ []) 0 3 false) ∷ (mark_at mark.OPEN_PAREN 4 5 false) ∷ (word_at word.LET (108 ∷ 101 ∷ 116 ∷ []) 5 8 false) ∷ (name_at (105 ∷ []) 9 10 false) ∷ (mark_at mark.ASSIGN 11 12 false) ∷ (number_at 0 13 14 false) ∷ (mark_at mark.SEMICOLON 14 15 false) ∷ (name_at (105 ∷ []) 16 17 false) ∷ (mark_at mark.LESS 18 19 false) ∷ (number_at 2 20 21 false) ∷ (mark_at mark.SEMICOLON 21 22 false) ∷ (name_at (105 ∷ []) 23 24 false) ∷ (mark_at mark.INCREMENT 24 26 false) ∷ (mark_at mark.CLOSE_PAREN 26 27 false) ∷ (name_at (102 ∷ []) 28 29 false) ∷ (mark_at mark.OPEN_PAREN 29 30 false) ∷ (mark_at mark.OPEN_PAREN 30 31 false) ∷ (mark_at mark.CLOSE_PAREN 31 32 false) ∷ (mark_at mark.ARROW 33 35 false) ∷ (name_at (105 ∷ []) 36 37 false) ∷ (mark_at mark.CLOSE_PAREN 37 38 false) ∷ (mark_at mark.SEMICOLON 38 39 false) ∷ (end_at 39 false) ∷ []) ≡ Accepted
unfolding answer
row_123 = refl

-- `new f(1).g`
row_124 : answer 12 ((word_at word.NEW (110 ∷ 101 ∷ 119 ∷ []) 0 3 false) ∷ (name_at (102 ∷ []) 4 5 false) ∷ (mark_at mark.OPEN_PAREN 5 6 false) ∷ (number_at 1 6 7 false) ∷ (mark_at mark.CLOSE_PAREN 7 8 false) ∷ (mark_at mark.DOT 8 9 false) ∷ (name_at (103 ∷ []) 9 10 false) ∷ (end_at 10 false) ∷ []) ≡ Accepted
unfolding answer
row_124 = refl

-- `(function g(){ return () => this + arguments.length + g })`
row_125 : answer 12 ((mark_at mark.OPEN_PAREN 0 1 false) ∷ (word_at word.FUNCTION (102 ∷ 117 ∷ 110 ∷ 99 ∷ 116 ∷ 105 ∷ 111 ∷ 110 ∷ []) 1 9 false) ∷ (name_at (103 ∷ []) 10 11 false) ∷ (mark_at mark.OPEN_PAREN 11 12 false) ∷ (mark_at mark.CLOSE_PAREN 12 13 false) ∷ (mark_at mark.OPEN_BRACE 13 14 false) ∷ (word_at word.RETURN (114 ∷ 101 ∷ 116 ∷ 117 ∷ 114 ∷ 110 ∷ []) 15 21 false) ∷ (mark_at mark.OPEN_PAREN 22 23 false) ∷ (mark_at mark.CLOSE_PAREN 23 24 false) ∷ (mark_at mark.ARROW 25 27 false) ∷ (word_at word.THIS (116 ∷ 104 ∷ 105 ∷ 115 ∷ []) 28 32 false) ∷ (mark_at mark.PLUS 33 34 false) ∷ (name_at (97 ∷ 114 ∷ 103 ∷ 117 ∷ 109 ∷ 101 ∷ 110 ∷ 116 ∷ 115 ∷ []) 35 44 false) ∷ (mark_at mark.DOT 44 45 false) ∷ (name_at (108 ∷ 101 ∷ 110 ∷ 103 ∷ 116 ∷ 104 ∷ []) 45 51 false) ∷ (mark_at mark.PLUS 52 53 false) ∷ (name_at (103 ∷ []) 54 55 false) ∷ (mark_at mark.CLOSE_BRACE 56 57 false) ∷ (mark_at mark.CLOSE_PAREN 57 58 false) ∷ (end_at 58 false) ∷ []) ≡ Accepted
unfolding answer
row_125 = refl

-- `x = "ab`
row_126 : answer 12 ((name_at (120 ∷ []) 0 1 false) ∷ (mark_at mark.ASSIGN 2 3 false) ∷ (bad_at 4 false) ∷ []) ≡ Unexpected 4
unfolding answer
row_126 = refl

-- `if (a) if (b) c; else d`
row_127 : answer 12 ((word_at word.IF (105 ∷ 102 ∷ []) 0 2 false) ∷ (mark_at mark.OPEN_PAREN 3 4 false) ∷ (name_at (97 ∷ []) 4 5 false) ∷ (mark_at mark.CLOSE_PAREN 5 6 false) ∷ (word_at word.IF (105 ∷ 102 ∷ []) 7 9 false) ∷ (mark_at mark.OPEN_PAREN 10 11 false) ∷ (name_at (98 ∷ []) 11 12 false) ∷ (mark_at mark.CLOSE_PAREN 12 13 false) ∷ (name_at (99 ∷ []) 14 15 false) ∷ (mark_at mark.SEMICOLON 15 16 false) ∷ (word_at word.ELSE (101 ∷ 108 ∷ 115 ∷ 101 ∷ []) 17 21 false) ∷ (name_at (100 ∷ []) 22 23 false) ∷ (end_at 23 false) ∷ []) ≡ Accepted
unfolding answer
row_127 = refl

-- `a: b: for (;;) continue a`
row_128 : answer 12 ((name_at (97 ∷ []) 0 1 false) ∷ (mark_at mark.COLON 1 2 false) ∷ (name_at (98 ∷ []) 3 4 false) ∷ (mark_at mark.COLON 4 5 false) ∷ (word_at word.FOR (102 ∷ 111 ∷ 114 ∷ []) 6 9 false) ∷ (mark_at mark.OPEN_PAREN 10 11 false) ∷ (mark_at mark.SEMICOLON 11 12 false) ∷ (mark_at mark.SEMICOLON 12 13 false) ∷ (mark_at mark.CLOSE_PAREN 13 14 false) ∷ (word_at word.CONTINUE (99 ∷ 111 ∷ 110 ∷ 116 ∷ 105 ∷ 110 ∷ 117 ∷ 101 ∷ []) 15 23 false) ∷ (name_at (97 ∷ []) 24 25 false) ∷ (end_at 25 false) ∷ []) ≡ Accepted
unfolding answer
row_128 = refl

-- `break\na`
row_129 : answer 12 ((word_at word.BREAK (98 ∷ 114 ∷ 101 ∷ 97 ∷ 107 ∷ []) 0 5 false) ∷ (name_at (97 ∷ []) 6 7 true) ∷ (end_at 7 false) ∷ []) ≡ Accepted
unfolding answer
row_129 = refl

-- Expressions that are read alone, up to the lexeme that does not go on with them.

-- `(a.b) => 1`
alone_0 : answer_expression 12 ((mark_at mark.OPEN_PAREN 0 1 false) ∷ (name_at (97 ∷ []) 1 2 false) ∷ (mark_at mark.DOT 2 3 false) ∷ (name_at (98 ∷ []) 3 4 false) ∷ (mark_at mark.CLOSE_PAREN 4 5 false) ∷ (mark_at mark.ARROW 6 8 false) ∷ (number_at 1 9 10 false) ∷ (end_at 10 false) ∷ []) ≡ Leaves 6
unfolding answer_expression
alone_0 = refl

-- `(a, b.c) => d`
alone_1 : answer_expression 12 ((mark_at mark.OPEN_PAREN 0 1 false) ∷ (name_at (97 ∷ []) 1 2 false) ∷ (mark_at mark.COMMA 2 3 false) ∷ (name_at (98 ∷ []) 4 5 false) ∷ (mark_at mark.DOT 5 6 false) ∷ (name_at (99 ∷ []) 6 7 false) ∷ (mark_at mark.CLOSE_PAREN 7 8 false) ∷ (mark_at mark.ARROW 9 11 false) ∷ (name_at (100 ∷ []) 12 13 false) ∷ (end_at 13 false) ∷ []) ≡ Leaves 9
unfolding answer_expression
alone_1 = refl

-- `(a = 1, b.c) => d`
alone_2 : answer_expression 12 ((mark_at mark.OPEN_PAREN 0 1 false) ∷ (name_at (97 ∷ []) 1 2 false) ∷ (mark_at mark.ASSIGN 3 4 false) ∷ (number_at 1 5 6 false) ∷ (mark_at mark.COMMA 6 7 false) ∷ (name_at (98 ∷ []) 8 9 false) ∷ (mark_at mark.DOT 9 10 false) ∷ (name_at (99 ∷ []) 10 11 false) ∷ (mark_at mark.CLOSE_PAREN 11 12 false) ∷ (mark_at mark.ARROW 13 15 false) ∷ (name_at (100 ∷ []) 16 17 false) ∷ (end_at 17 false) ∷ []) ≡ Leaves 13
unfolding answer_expression
alone_2 = refl

-- `((a)) => b`
alone_3 : answer_expression 12 ((mark_at mark.OPEN_PAREN 0 1 false) ∷ (mark_at mark.OPEN_PAREN 1 2 false) ∷ (name_at (97 ∷ []) 2 3 false) ∷ (mark_at mark.CLOSE_PAREN 3 4 false) ∷ (mark_at mark.CLOSE_PAREN 4 5 false) ∷ (mark_at mark.ARROW 6 8 false) ∷ (name_at (98 ∷ []) 9 10 false) ∷ (end_at 10 false) ∷ []) ≡ Leaves 6
unfolding answer_expression
alone_3 = refl

-- `(a, b) => c`
alone_4 : answer_expression 12 ((mark_at mark.OPEN_PAREN 0 1 false) ∷ (name_at (97 ∷ []) 1 2 false) ∷ (mark_at mark.COMMA 2 3 false) ∷ (name_at (98 ∷ []) 4 5 false) ∷ (mark_at mark.CLOSE_PAREN 5 6 false) ∷ (mark_at mark.ARROW 7 9 false) ∷ (name_at (99 ∷ []) 10 11 false) ∷ (end_at 11 false) ∷ []) ≡ Leaves 11
unfolding answer_expression
alone_4 = refl

-- `(a = [b, 1].c, d) => e`
alone_5 : answer_expression 12 ((mark_at mark.OPEN_PAREN 0 1 false) ∷ (name_at (97 ∷ []) 1 2 false) ∷ (mark_at mark.ASSIGN 3 4 false) ∷ (mark_at mark.OPEN_BRACKET 5 6 false) ∷ (name_at (98 ∷ []) 6 7 false) ∷ (mark_at mark.COMMA 7 8 false) ∷ (number_at 1 9 10 false) ∷ (mark_at mark.CLOSE_BRACKET 10 11 false) ∷ (mark_at mark.DOT 11 12 false) ∷ (name_at (99 ∷ []) 12 13 false) ∷ (mark_at mark.COMMA 13 14 false) ∷ (name_at (100 ∷ []) 15 16 false) ∷ (mark_at mark.CLOSE_PAREN 16 17 false) ∷ (mark_at mark.ARROW 18 20 false) ∷ (name_at (101 ∷ []) 21 22 false) ∷ (end_at 22 false) ∷ []) ≡ Leaves 22
unfolding answer_expression
alone_5 = refl

-- `(a, 1) => b`
alone_6 : answer_expression 12 ((mark_at mark.OPEN_PAREN 0 1 false) ∷ (name_at (97 ∷ []) 1 2 false) ∷ (mark_at mark.COMMA 2 3 false) ∷ (number_at 1 4 5 false) ∷ (mark_at mark.CLOSE_PAREN 5 6 false) ∷ (mark_at mark.ARROW 7 9 false) ∷ (name_at (98 ∷ []) 10 11 false) ∷ (end_at 11 false) ∷ []) ≡ Leaves 7
unfolding answer_expression
alone_6 = refl

-- `(a.b,) => c`
alone_7 : answer_expression 12 ((mark_at mark.OPEN_PAREN 0 1 false) ∷ (name_at (97 ∷ []) 1 2 false) ∷ (mark_at mark.DOT 2 3 false) ∷ (name_at (98 ∷ []) 3 4 false) ∷ (mark_at mark.COMMA 4 5 false) ∷ (mark_at mark.CLOSE_PAREN 5 6 false) ∷ (mark_at mark.ARROW 7 9 false) ∷ (name_at (99 ∷ []) 10 11 false) ∷ (end_at 11 false) ∷ []) ≡ Unexpected 5
unfolding answer_expression
alone_7 = refl

-- `() => 1`
alone_8 : answer_expression 12 ((mark_at mark.OPEN_PAREN 0 1 false) ∷ (mark_at mark.CLOSE_PAREN 1 2 false) ∷ (mark_at mark.ARROW 3 5 false) ∷ (number_at 1 6 7 false) ∷ (end_at 7 false) ∷ []) ≡ Leaves 7
unfolding answer_expression
alone_8 = refl

-- `(a, ...b) => 1`
alone_9 : answer_expression 12 ((mark_at mark.OPEN_PAREN 0 1 false) ∷ (name_at (97 ∷ []) 1 2 false) ∷ (mark_at mark.COMMA 2 3 false) ∷ (mark_at mark.ELLIPSIS 4 7 false) ∷ (name_at (98 ∷ []) 7 8 false) ∷ (mark_at mark.CLOSE_PAREN 8 9 false) ∷ (mark_at mark.ARROW 10 12 false) ∷ (number_at 1 13 14 false) ∷ (end_at 14 false) ∷ []) ≡ Leaves 14
unfolding answer_expression
alone_9 = refl

-- `a = (b.c) => 1`
alone_10 : answer_expression 12 ((name_at (97 ∷ []) 0 1 false) ∷ (mark_at mark.ASSIGN 2 3 false) ∷ (mark_at mark.OPEN_PAREN 4 5 false) ∷ (name_at (98 ∷ []) 5 6 false) ∷ (mark_at mark.DOT 6 7 false) ∷ (name_at (99 ∷ []) 7 8 false) ∷ (mark_at mark.CLOSE_PAREN 8 9 false) ∷ (mark_at mark.ARROW 10 12 false) ∷ (number_at 1 13 14 false) ∷ (end_at 14 false) ∷ []) ≡ Leaves 10
unfolding answer_expression
alone_10 = refl
