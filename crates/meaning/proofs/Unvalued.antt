-- 15: the pass over the tokens finds the first `mod` of keep, a try or a guard that lacks a value in some state. Where a
-- `mod` stands is told from the text, part by part; a divisor can be below 1 exactly where it is so at the lowest values.
-- Where none lacks one, every condition of keep, a try or a guard has a value at every state.
use Prim.Native.Nat.{ℕ}
use mathlib.Core.Path.{◌≡◌, refl, sym, ap, subst, ◌∙◌}
use mathlib.Core.Bool.{Bool, true, false, not, ◌&&◌, ◌||◌, false≢true}
use mathlib.Core.Logic.{◌⊎◌, inl, inr, ⊎_elim, ◌↔◌}
use mathlib.Core.List.{List, [], ◌∷◌, ◌++◌, append-nil, append_assoc, append_cancel_left, head-eq_of_cons-eq}
use mathlib.Core.List.{tail-eq_of_cons-eq}
use mathlib.Core.Option.{Option, none, some}
use lib.IntN.{ℤ, pos}
use Rattle.syntax.specs.Bytes.{same_bytes}
use Rattle.syntax.specs.Token.{Lexeme, name, key, number, mark, lbrace, rbrace, lparen, rparen, semicolon}
use Rattle.syntax.specs.Token.{becomes, minus, bang, and_and, or_or, k_monitor, k_keep, k_method, k_try}
use Rattle.syntax.specs.Token.{k_waituntil, k_if, k_else, k_true, k_false, k_mod, Token, lexemes}
use Rattle.syntax.specs.Decide.Lexeme.{is_key, is_mark, keyword_number, mark_number}
use Rattle.syntax.specs.Decide.Reading.{got, rest}
use Rattle.syntax.specs.Decide.Reading.{read_atom}
use Rattle.syntax.specs.Tree.{Int, plain, negated, Atom, literal, variable, Sign, added, taken, Term, alone, remainder}
use Rattle.syntax.specs.Tree.{Signed, Expr, Comparison, eq, ne, lt, le, gt, ge, Cond, only, or, Conj, just, and, Simple}
use Rattle.syntax.specs.Tree.{negation, bracketed, constant, compare, Block, end, then, Stmt, assign, if_then, if_else}
use Rattle.syntax.specs.Tree.{Region, Method, Var, Monitor, all, each, spell, spell_int, spell_atom, sign_mark, spell_term}
use Rattle.syntax.specs.Tree.{spell_signed, spell_expr, comparison_mark, spell_constant, spell_cond, spell_conj, spell_simple}
use Rattle.syntax.specs.Tree.{spell_block, spell_stmt, spell_region, spell_method, spell_try}
use Rattle.syntax.proofs.Lexemes.{decides_key}
use Rattle.meaning.specs.Value.{int_of, less, in_range, value_of, atom_value, term_value}
use Rattle.meaning.specs.Value.{cond_value, is_true}
use Rattle.meaning.specs.Value.{truth}
use Rattle.meaning.specs.State.{lowest}
use Rattle.meaning.specs.Runs.{State, no_values, one_value, regions_of, IsRegion}
use Rattle.meaning.specs.Choice.{IsTry}
use Rattle.meaning.specs.Before.{up_to, up_to_try, up_to_method, up_to_region}
use Rattle.meaning.specs.Valued.{Asked, of_keep, of_try, of_guard, RemainderIn, Lacking}
use Rattle.meaning.specs.Accepted.{AtMost, GoodRanges, no_vars, one_var, NoneOffends, FirstOffends, NoneLacks}
use Rattle.meaning.specs.Refusal.{Unvalued}
use Rattle.meaning.specs.Decide.Check.{asks, low_divisor, unvalued}
use Rattle.logic.proofs.Bools.{split, clash, both, not_true, true_not, different}
use Rattle.logic.proofs.Bools as bools
use Rattle.meaning.proofs.Integers.{not_less_self, not_less_trans}
use Rattle.meaning.proofs.Remainders.{modulo_none}
use Rattle.meaning.proofs.Lacking.{in_one, in_either, at_number, Without, without_nil, without_next}
use Rattle.meaning.proofs.Lacking.{without_vars, atom_read, of_cond, lacks_iff}
use Rattle.meaning.proofs.KeywordPlaces.{each_append}
use Rattle.meaning.proofs.FromPart.{behind, from_keep, from_try, from_region, region_parts}
use Rattle.meaning.proofs.GrammarPlace.{Cut, cut, lexemes_append}
use Rattle.meaning.proofs.Limits.{Pass, law}

-- Is a condition asked, behind some lexemes

asks_after : Bool → List Lexeme → Bool
asks_after on [] = on
asks_after on (l ∷ ls) = asks_after (asks on l) ls

after_both : (on : Bool) (us vs : List Lexeme) → asks_after on (us ++ vs) ≡ asks_after (asks_after on us) vs
unfolding asks_after
after_both on [] vs = refl
after_both on (l ∷ us) vs = after_both (asks on l) us vs

-- lexemes behind which it is as before
data Leave (on : Bool) : List Lexeme → Type 0 where
  none_left : Leave on []
  leaves : {l : Lexeme} {ls : List Lexeme} → asks on l ≡ on → Leave on ls → Leave on (l ∷ ls)

leave_front : (on : Bool) (us vs : List Lexeme) → Leave on (us ++ vs) → asks_after on us ≡ on
unfolding asks_after
leave_front on [] vs h = refl
leave_front on (l ∷ us) vs (leaves p h) = ap (λ (b : Bool). asks_after b us) p ∙ leave_front on us vs h

leave_join : {on : Bool} {us vs : List Lexeme} → Leave on us → Leave on vs → Leave on (us ++ vs)
leave_join none_left q = q
leave_join (leaves h p) q = leaves h (leave_join p q)

-- a lexeme that neither begins nor ends such a condition
calm : (on : Bool) (l : Lexeme) → (is_key k_keep l || is_key k_try l || is_key k_waituntil l ≡ false)
    → (is_mark semicolon l || is_mark lbrace l ≡ false) → asks on l ≡ on
unfolding asks
calm true l p q = rw (p, q)
calm false l p q = rw p

-- one that does not begin it, where it is not on
quiet : (l : Lexeme) → (is_key k_keep l || is_key k_try l || is_key k_waituntil l ≡ false) → asks false l ≡ false
unfolding asks
quiet l p = rw p

module _ (on : Bool) where
  leave_int : (i : Int) → Leave on (spell_int i)
  unfolding spell_int is_key is_mark mark_number
  leave_int (plain n) = leaves (calm on (number n) refl refl) none_left
  leave_int (negated n) = leaves (calm on (mark minus) refl refl) (leaves (calm on (number n) refl refl) none_left)

  leave_atom : (a : Atom) → Leave on (spell_atom a)
  unfolding spell_atom is_key is_mark
  leave_atom (literal i) = leave_int i
  leave_atom (variable x) = leaves (calm on (name x) refl refl) none_left

  leave_term : (t : Term) → Leave on (spell_term t)
  unfolding spell_term is_key is_mark keyword_number
  leave_term (alone a) = leave_atom a
  leave_term (remainder a b) = leave_join (leave_atom a) (leaves (calm on (key k_mod) refl refl) (leave_atom b))

  leave_sign : (s : Sign) → asks on (mark (sign_mark s)) ≡ on
  unfolding sign_mark is_key is_mark mark_number
  leave_sign added = calm on _ refl refl
  leave_sign taken = calm on _ refl refl

  leave_comparison : (o : Comparison) → asks on (mark (comparison_mark o)) ≡ on
  unfolding comparison_mark is_key is_mark mark_number
  leave_comparison eq = calm on _ refl refl
  leave_comparison ne = calm on _ refl refl
  leave_comparison lt = calm on _ refl refl
  leave_comparison le = calm on _ refl refl
  leave_comparison gt = calm on _ refl refl
  leave_comparison ge = calm on _ refl refl

  leave_terms : (ts : List Signed) → Leave on (each spell_signed ts)
  unfolding each spell_signed
  leave_terms [] = none_left
  leave_terms (t ∷ ts) = leave_join (leaves (leave_sign t.sign) (leave_term t.term)) (leave_terms ts)

  leave_expr : (e : Expr) → Leave on (spell_expr e)
  unfolding spell_expr
  leave_expr e = leave_join (leave_term e.first) (leave_terms e.more)

  leave_constant : (b : Bool) → Leave on (spell_constant b)
  unfolding spell_constant is_key is_mark keyword_number
  leave_constant true = leaves (calm on (key k_true) refl refl) none_left
  leave_constant false = leaves (calm on (key k_false) refl refl) none_left

  mutual
    unfolding spell_cond is_key is_mark mark_number

    leave_cond : (c : Cond) → Leave on (spell_cond c)
    leave_cond (only c) = leave_conj c
    leave_cond (or c d) = leave_join (leave_conj c) (leaves (calm on (mark or_or) refl refl) (leave_cond d))

    leave_conj : (c : Conj) → Leave on (spell_conj c)
    leave_conj (just s) = leave_simple s
    leave_conj (and s c) = leave_join (leave_simple s) (leaves (calm on (mark and_and) refl refl) (leave_conj c))

    leave_simple : (s : Simple) → Leave on (spell_simple s)
    leave_simple (negation s) = leaves (calm on (mark bang) refl refl) (leave_simple s)
    leave_simple (bracketed c) =
        leaves (calm on (mark lparen) refl refl)
        (leave_join (leave_cond c) (leaves (calm on (mark rparen) refl refl) none_left))
    leave_simple (constant b) = leave_constant b
    leave_simple (compare e o f) = leave_join (leave_expr e) (leaves (leave_comparison o) (leave_expr f))

-- a block in its braces, where it is not on
leave_braced : {w v : List Lexeme} → Leave false w → Leave false v → Leave false (mark lbrace ∷ (w ++ (mark rbrace ∷ v)))
unfolding is_key
leave_braced p q =
    leaves (quiet (mark lbrace) refl) (leave_join p (leaves (quiet (mark rbrace) refl) q))

mutual
  unfolding spell_block is_key keyword_number

  leave_block : (b : Block) → Leave false (spell_block b)
  leave_block end = none_left
  leave_block (then s b) = leave_join (leave_stmt s) (leave_block b)

  leave_stmt : (s : Stmt) → Leave false (spell_stmt s)
  leave_stmt (assign x e) =
      leaves (quiet (name x) refl) (leaves (quiet (mark becomes) refl)
      (leave_join (leave_expr false e) (leaves (quiet (mark semicolon) refl) none_left)))
  leave_stmt (if_then c b) =
      leaves (quiet (key k_if) refl) (leaves (quiet (mark lparen) refl) (leave_join (leave_cond false c)
      (leaves (quiet (mark rparen) refl) (leave_braced (leave_block b) none_left))))
  leave_stmt (if_else c a b) =
      leaves (quiet (key k_if) refl) (leaves (quiet (mark lparen) refl) (leave_join (leave_cond false c)
      (leaves (quiet (mark rparen) refl) (leave_braced (leave_block a)
      (leaves (quiet (key k_else) refl) (leave_braced (leave_block b) none_left))))))

-- What stands before one more part

try_more : (m : Monitor) (done : List Cond) (c : Cond)
    → up_to_try m (done ++ (c ∷ [])) ≡ ((up_to_try m done ++ (key k_try ∷ [])) ++ spell_cond c) ++ (mark semicolon ∷ [])
unfolding up_to_try spell_try each
try_more m done c = rw (each_append spell_try done (c ∷ [])) (simp (append_assoc, append-nil))

tries_begin : (m : Monitor)
    → up_to_try m [] ≡ ((up_to m (all m.vars) ++ (key k_keep ∷ [])) ++ spell_cond m.keep) ++ (mark semicolon ∷ [])
unfolding up_to_try each
tries_begin m = simp append_assoc

regrouped : (a b c d e f g h i : List Lexeme)
    → a ++ (b ++ (c ++ (d ++ (e ++ (f ++ (g ++ (h ++ i)))))))
    ≡ ((((((a ++ (b ++ c)) ++ d) ++ e) ++ f) ++ g) ++ h) ++ i
regrouped a b c d e f g h i = simp append_assoc

region_more : (m : Monitor) (methods : List Method) (x : Method) (done : List Region) (r : Region)
    → up_to_region m methods x (done ++ (r ∷ []))
    ≡ (((((up_to_region m methods x done ++ (key k_waituntil ∷ mark lparen ∷ [])) ++ spell_cond r.guard)
    ++ (mark rparen ∷ [])) ++ (mark lbrace ∷ [])) ++ spell_block r.body) ++ (mark rbrace ∷ [])
unfolding up_to_region spell_region each
region_more m methods x done r =
    ap {B = List Lexeme} (λ ls. up_to_method m methods ++ (key k_method ∷ name x.title ∷ mark lbrace ∷ ls))
    (each_append spell_region done (r ∷ [])
    ∙ ap (λ (ls : List Lexeme). each spell_region done ++ ls) (append-nil (spell_region r)))
    ∙ regrouped (up_to_method m methods) (key k_method ∷ name x.title ∷ mark lbrace ∷ []) (each spell_region done)
    (key k_waituntil ∷ mark lparen ∷ []) (spell_cond r.guard) (mark rparen ∷ []) (mark lbrace ∷ []) (spell_block r.body)
    (mark rbrace ∷ [])

method_begins : (m : Monitor) (done : List Method) (x : Method)
    → up_to_region m done x [] ≡ up_to_method m done ++ (key k_method ∷ name x.title ∷ mark lbrace ∷ [])
unfolding up_to_region each
method_begins m done x = refl

method_more : (m : Monitor) (done : List Method) (x : Method)
    → up_to_method m (done ++ (x ∷ [])) ≡ up_to_region m done x (all x.regions) ++ (mark rbrace ∷ [])
unfolding up_to_method up_to_region spell_method each
method_more m done x = rw (each_append spell_method done (x ∷ [])) (simp (append_assoc, append-nil))

methods_begin : (m : Monitor) → up_to_method m [] ≡ up_to_try m m.tries
unfolding up_to_method each
methods_begin m = append-nil (up_to_try m m.tries)

without_front : (m : Monitor) → Without (up_to m (all m.vars))
unfolding up_to is_key keyword_number
without_front m =
    without_next (key k_monitor) refl (without_next (name m.title) refl (without_next (mark lbrace) refl
    (without_vars (all m.vars))))

-- behind a brace that opens nothing is asked
shut : (on : Bool) → asks on (mark lbrace) ≡ false
unfolding asks is_key is_mark mark_number
shut true = refl
shut false = refl

-- Where a `mod` of a file stands, if it is asked

-- in a condition of keep, a try or a guard, between two atoms
record Found (m : Monitor) (before after : List Lexeme) : Type 0 where
  pre : List Lexeme
  condition : Cond
  asked : Asked m pre condition
  left : Atom
  right : Atom
  front : List Lexeme
  stands : RemainderIn condition left right front
  place : before ≡ pre ++ (front ++ spell_atom left)
  more : List Lexeme
  behind_it : after ≡ spell_atom right ++ more

module _ (m : Monitor) (before after : List Lexeme) where
  found_in : (pre : List Lexeme) (c : Cond) → Asked m pre c → (b rest w : List Lexeme)
      → spell_cond c ≡ b ++ (key k_mod ∷ rest) → before ≡ pre ++ b → after ≡ rest ++ w → Found m before after
  found_in pre c asked b rest w e p q =
      let s = of_cond [] [] c b rest e in
      record {
        pre = pre;
        condition = c;
        asked = asked;
        left = s.left;
        right = s.right;
        front = s.front;
        stands = record {
          back = s.back;
          stands =
              e ∙ ap (λ (x : List Lexeme). x ++ (key k_mod ∷ rest)) s.ahead
              ∙ append_assoc s.front (spell_atom s.left) (key k_mod ∷ rest)
              ∙ ap (λ (x : List Lexeme). s.front ++ (spell_atom s.left ++ (key k_mod ∷ x))) s.behind;
        };
        place = p ∙ ap (λ (x : List Lexeme). pre ++ x) s.ahead;
        more = s.back ++ w;
        behind_it =
            q ∙ ap (λ (x : List Lexeme). x ++ w) s.behind ∙ append_assoc (spell_atom s.right) s.back w;
      }

  -- it stands in one of some parts, or behind them all
  record Behind (pre rest : List Lexeme) : Type 0 where
    between : List Lexeme
    ahead : before ≡ pre ++ between
    is : rest ≡ between ++ (key k_mod ∷ after)

  -- behind a part that has none
  past : (pre o rest b : List Lexeme) → Without o → before ≡ pre ++ b → o ++ rest ≡ b ++ (key k_mod ∷ after)
      → Behind (pre ++ o) rest
  past pre o rest b none_in p e =
      ⊎_elim (λ t. absurd (none_in b t.0 t.1))
      (λ t. record {
        between = t.0;
        ahead = p ∙ ap (λ (x : List Lexeme). pre ++ x) t.1 ∙ sym (append_assoc pre o t.0);
        is = t.2;
      }) (in_either o rest b after e)

  -- in a condition that is asked, or behind it
  in_asked : (pre : List Lexeme) (c : Cond) → Asked m pre c → (rest b : List Lexeme) → before ≡ pre ++ b
      → spell_cond c ++ rest ≡ b ++ (key k_mod ∷ after) → Found m before after ⊎ Behind (pre ++ spell_cond c) rest
  in_asked pre c asked rest b p e =
      ⊎_elim (λ t. inl (found_in pre c asked b t.0 rest t.1 p t.2))
      (λ t. inr (record {
        between = t.0;
        ahead = p ∙ ap (λ (x : List Lexeme). pre ++ x) t.1 ∙ sym (append_assoc pre (spell_cond c) t.0);
        is = t.2;
      })) (in_either (spell_cond c) rest b after e)

  -- one after the other
  then_in : {pre rest pre' rest' : List Lexeme} → Found m before after ⊎ Behind pre rest
      → ((b : List Lexeme) → before ≡ pre ++ b → rest ≡ b ++ (key k_mod ∷ after) → Found m before after ⊎ Behind pre' rest')
      → Found m before after ⊎ Behind pre' rest'
  then_in (inl f) g = inl f
  then_in (inr t) g = g t.between t.ahead t.is

  -- among the tries
  in_tries : (done cs : List Cond) → m.tries ≡ done ++ cs → (rest b : List Lexeme) → before ≡ up_to_try m done ++ b
      → each spell_try cs ++ rest ≡ b ++ (key k_mod ∷ after)
      → Found m before after ⊎ Behind (up_to_try m m.tries) rest
  unfolding each spell_try is_key keyword_number
  in_tries done [] e rest b p q =
      inr (record { between = b; ahead = p ∙ ap (λ (x : List Cond). up_to_try m x ++ b) (sym (append-nil done) ∙ sym e); is = q })
  in_tries done (c ∷ cs) e rest b p q =
      let one = key k_try ∷ [] in
      let end = mark semicolon ∷ [] in
      let w = each spell_try cs ++ rest in
      let at = past (up_to_try m done) one (spell_cond c ++ (end ++ w)) b (without_next (key k_try) refl without_nil) p
      (let h : one ++ (spell_cond c ++ (end ++ w)) ≡ each spell_try (c ∷ cs) ++ rest = simp append_assoc in h ∙ q) in
      then_in (in_asked (up_to_try m done ++ one) c (of_try done cs c e) (end ++ w) at.between at.ahead at.is)
      (λ b' p' q'.
      let behind_it = past ((up_to_try m done ++ one) ++ spell_cond c) end w b' (without_next (mark semicolon) refl without_nil)
      p' q' in
      in_tries (done ++ (c ∷ [])) cs (e ∙ sym (append_assoc done (c ∷ []) cs)) rest behind_it.between
      (behind_it.ahead ∙ ap (λ (x : List Lexeme). x ++ behind_it.between) (sym (try_more m done c))) behind_it.is)

  -- among the regions of a method: a body is not asked, so it stands in a guard
  module _ (on : asks_after false before ≡ true) where
    in_body : (pre : List Lexeme) (q : Block) (rest b : List Lexeme) → before ≡ (pre ++ (mark lbrace ∷ [])) ++ b
        → spell_block q ++ rest ≡ b ++ (key k_mod ∷ after) → Behind ((pre ++ (mark lbrace ∷ [])) ++ spell_block q) rest
    unfolding asks_after
    in_body pre q rest b p e =
        ⊎_elim (λ t. absurd (false≢true (sym (off t.0 t.1) ∙ on)))
        (λ t. record {
          between = t.0;
          ahead =
              p ∙ ap (λ (x : List Lexeme). (pre ++ (mark lbrace ∷ [])) ++ x) t.1
              ∙ sym (append_assoc (pre ++ (mark lbrace ∷ [])) (spell_block q) t.0);
          is = t.2;
        }) (in_either (spell_block q) rest b after e)
      where
        off : (rest : List Lexeme) → spell_block q ≡ b ++ (key k_mod ∷ rest) → asks_after false before ≡ false
        off rest e =
            ap (asks_after false) p ∙ after_both false (pre ++ (mark lbrace ∷ [])) b
            ∙ ap (λ (x : Bool). asks_after x b) (after_both false pre (mark lbrace ∷ []) ∙ shut (asks_after false pre))
            ∙ leave_front false b (key k_mod ∷ rest) (subst (Leave false) e (leave_block q))

    in_regions : (methods others : List Method) (x : Method) → all m.methods ≡ methods ++ (x ∷ others)
        → (done rs : List Region) → all x.regions ≡ done ++ rs → (rest b : List Lexeme)
        → before ≡ up_to_region m methods x done ++ b → each spell_region rs ++ rest ≡ b ++ (key k_mod ∷ after)
        → Found m before after ⊎ Behind (up_to_region m methods x (all x.regions)) rest
    unfolding each is_key keyword_number
    in_regions methods others x e done [] f rest b p q =
        inr (record {
          between = b;
          ahead = p ∙ ap (λ (y : List Region). up_to_region m methods x y ++ b) (sym (append-nil done) ∙ sym f);
          is = q;
        })
    in_regions methods others x e done (r ∷ rs) f rest b p q =
        let pre = up_to_region m methods x done in
        let open' = key k_waituntil ∷ mark lparen ∷ [] in
        let shut' = mark rparen ∷ [] in
        let brace = mark lbrace ∷ [] in
        let end = mark rbrace ∷ [] in
        let w = each spell_region rs ++ rest in
        let body = spell_block r.body in
        let guard = spell_cond r.guard in
        let at = past pre open' (guard ++ (shut' ++ (brace ++ (body ++ (end ++ w))))) b
        (without_next (key k_waituntil) refl (without_next (mark lparen) refl without_nil)) p
        (sym (append_assoc (spell_region r) (each spell_region rs) rest ∙ region_parts r w) ∙ q) in
        then_in (in_asked (pre ++ open') r.guard (of_guard methods others x done rs r e f)
        (shut' ++ (brace ++ (body ++ (end ++ w)))) at.between at.ahead at.is)
        (λ b₁ p₁ q₁.
        let t₁ = past ((pre ++ open') ++ guard) shut' (brace ++ (body ++ (end ++ w))) b₁
        (without_next (mark rparen) refl without_nil) p₁ q₁ in
        let t₂ = past (((pre ++ open') ++ guard) ++ shut') brace (body ++ (end ++ w)) t₁.between
        (without_next (mark lbrace) refl without_nil) t₁.ahead t₁.is in
        let t₃ = in_body (((pre ++ open') ++ guard) ++ shut') r.body (end ++ w) t₂.between t₂.ahead t₂.is in
        let t₄ = past (((((pre ++ open') ++ guard) ++ shut') ++ brace) ++ body) end w t₃.between
        (without_next (mark rbrace) refl without_nil) t₃.ahead t₃.is in
        in_regions methods others x e (done ++ (r ∷ [])) rs (f ∙ sym (append_assoc done (r ∷ []) rs)) rest t₄.between
        (t₄.ahead ∙ ap (λ (y : List Lexeme). y ++ t₄.between) (sym (region_more m methods x done r))) t₄.is)

    in_methods : (done ms : List Method) → all m.methods ≡ done ++ ms → (rest b : List Lexeme)
        → before ≡ up_to_method m done ++ b → each spell_method ms ++ rest ≡ b ++ (key k_mod ∷ after)
        → Found m before after ⊎ Behind (up_to_method m (all m.methods)) rest
    unfolding each spell_method is_key keyword_number
    in_methods done [] e rest b p q =
        inr (record {
          between = b;
          ahead = p ∙ ap (λ (y : List Method). up_to_method m y ++ b) (sym (append-nil done) ∙ sym e);
          is = q;
        })
    in_methods done (x ∷ ms) e rest b p q =
        let head = key k_method ∷ name x.title ∷ mark lbrace ∷ [] in
        let end = mark rbrace ∷ [] in
        let w = each spell_method ms ++ rest in
        let regions = each spell_region (all x.regions) in
        let t₁ = past (up_to_method m done) head (regions ++ (end ++ w)) b
        (without_next (key k_method) refl (without_next (name x.title) refl (without_next (mark lbrace) refl
        without_nil))) p
        (let h : head ++ (regions ++ (end ++ w)) ≡ each spell_method (x ∷ ms) ++ rest = simp append_assoc in h ∙ q) in
        then_in (in_regions done ms x e [] (all x.regions) refl (end ++ w) t₁.between
        (t₁.ahead ∙ ap (λ (y : List Lexeme). y ++ t₁.between) (sym (method_begins m done x))) t₁.is)
        (λ b₂ p₂ q₂.
        let t₂ = past (up_to_region m done x (all x.regions)) end w b₂ (without_next (mark rbrace) refl without_nil) p₂ q₂
        in
        in_methods (done ++ (x ∷ [])) ms (e ∙ sym (append_assoc done (x ∷ []) ms)) rest t₂.between
        (t₂.ahead ∙ ap (λ (y : List Lexeme). y ++ t₂.between) (sym (method_more m done x))) t₂.is)

    -- in the file
    locate : spell m ≡ before ++ (key k_mod ∷ after) → Found m before after
    unfolding is_key keyword_number each
    locate e =
        let front = up_to m (all m.vars) in
        let one = key k_keep ∷ [] in
        let end = mark semicolon ∷ [] in
        let methods = each spell_method (all m.methods) in
        let tries = each spell_try m.tries in
        let last = mark rbrace ∷ [] in
        let t₁ = past [] front (one ++ (spell_cond m.keep ++ (end ++ (tries ++ (methods ++ last))))) before
        (without_front m) refl (sym (from_keep m) ∙ e) in
        let t₂ = past front one (spell_cond m.keep ++ (end ++ (tries ++ (methods ++ last)))) t₁.between
        (without_next (key k_keep) refl without_nil) t₁.ahead t₁.is in
        ends (then_in (in_asked (front ++ one) m.keep of_keep (end ++ (tries ++ (methods ++ last))) t₂.between t₂.ahead
        t₂.is)
        (λ b₃ p₃ q₃.
        let t₃ = past ((front ++ one) ++ spell_cond m.keep) end (tries ++ (methods ++ last)) b₃
        (without_next (mark semicolon) refl without_nil) p₃ q₃ in
        then_in (in_tries [] m.tries refl (methods ++ last) t₃.between
        (t₃.ahead ∙ ap (λ (y : List Lexeme). y ++ t₃.between) (sym (tries_begin m))) t₃.is)
        (λ b₄ p₄ q₄. in_methods [] (all m.methods) refl last b₄
        (p₄ ∙ ap (λ (y : List Lexeme). y ++ b₄) (sym (methods_begin m))) q₄)))
      where
        ends : Found m before after ⊎ Behind (up_to_method m (all m.methods)) (mark rbrace ∷ []) → Found m before after
        ends (inl f) = f
        ends (inr t) = absurd (without_next (mark rbrace) refl without_nil t.between after t.is)

-- The other way: a condition that is asked stands in the file, behind what asks for it

asked_stands : {m : Monitor} {pre : List Lexeme} {c : Cond} → Asked m pre c
    → (post : List Lexeme) × (spell m ≡ pre ++ (spell_cond c ++ post))
asked_stands {m} of_keep = (_, from_keep m ∙ sym (append_assoc (up_to m (all m.vars)) (key k_keep ∷ []) _))
asked_stands {m} (of_try before after c e) =
    (_, from_try m before c after e ∙ sym (append_assoc (up_to_try m before) (key k_try ∷ []) _))
asked_stands {m} (of_guard methods others x before after r e f) =
    let pre = up_to_region m methods x before in (
      _,
      from_region m methods x others before r after e f
          ∙ ap (λ (ls : List Lexeme). pre ++ ls) (region_parts r (each spell_region after ++ (mark rbrace ∷ behind others)))
          ∙ sym (append_assoc pre (key k_waituntil ∷ mark lparen ∷ []) _),
    )

asked_on : {m : Monitor} {pre : List Lexeme} {c : Cond} → Asked m pre c → asks_after false pre ≡ true
unfolding asks_after asks is_key is_mark keyword_number mark_number
asked_on {m} of_keep = after_both false (up_to m (all m.vars)) (key k_keep ∷ [])
asked_on {m} (of_try before after c e) = after_both false (up_to_try m before) (key k_try ∷ [])
asked_on {m} (of_guard methods others x before after r e f) =
    after_both false (up_to_region m methods x before) (key k_waituntil ∷ mark lparen ∷ [])

-- Divisors

-- the lowest values are a state, and below every other
lowest_state : {vs : List Var} → GoodRanges vs → State vs (lowest vs)
unfolding lowest AtMost in_range
lowest_state no_vars = no_values
lowest_state (one_var {v} g gs) =
    one_value (bools.and (true_not (not_less_self (int_of v.low))) (true_not g.ordered)) (lowest_state gs)

lowest_least : {vs : List Var} {as' : List ℤ} → State vs as' → (x : List ℕ)
    → less (value_of vs as' x) (value_of vs (lowest vs) x) ≡ false
unfolding lowest value_of in_range
lowest_least no_values x = not_less_self (pos 0)
lowest_least (one_value {v} {vs} {a} {as'} r s) x =
    split (same_bytes v.title x)
    (λ h. rw (h, value_of) (not_true (both (not (less a (int_of v.low))) (not (less (int_of v.high) a)) r).0))
    (λ h. rw (h, value_of) (lowest_least s x))

atom_least : {vs : List Var} {as' : List ℤ} → State vs as' → (a : Atom)
    → less (atom_value vs as' a) (atom_value vs (lowest vs) a) ≡ false
unfolding atom_value
atom_least s (literal i) = not_less_self (int_of i)
atom_least s (variable x) = lowest_least s x

-- a remainder lacks a value in some state exactly where its divisor is below 1 at the lowest values
lacks_low : {vs : List Var} {as' : List ℤ} (a b : Atom) → State vs as' → term_value vs as' (remainder a b) ≡ none
    → less (atom_value vs (lowest vs) b) (pos 1) ≡ true
unfolding term_value
lacks_low {vs} {as'} a b s h =
    let low = (modulo_none (atom_value vs as' a) (atom_value vs as' b)).0 h in
    split (less (atom_value vs (lowest vs) b) (pos 1)) (λ t. t)
    (λ f. clash low (not_less_trans (pos 1) (atom_value vs (lowest vs) b) (atom_value vs as' b) f (atom_least s b)))

low_lacks : (vs : List Var) (a b : Atom) → less (atom_value vs (lowest vs) b) (pos 1) ≡ true
    → term_value vs (lowest vs) (remainder a b) ≡ none
unfolding term_value
low_lacks vs a b h = (modulo_none (atom_value vs (lowest vs) a) (atom_value vs (lowest vs) b)).1 h

-- The pass

module _ (m : Monitor) (good : GoodRanges (all m.vars)) where
  abbrev vs : List Var
  vs = all m.vars

  lacking_of : (before : List Lexeme) (after : List Lexeme) → spell m ≡ before ++ (key k_mod ∷ after)
      → asks_after false before ≡ true → low_divisor vs (read_atom after) ≡ true → Lacking m before
  unfolding low_divisor
  lacking_of before after e on low =
      let f = locate m before after on e in
      let read : read_atom after ≡ got f.right f.more = ap read_atom f.behind_it ∙ atom_read f.right f.more in
      record {
        pre = f.pre;
        condition = f.condition;
        asked = f.asked;
        left = f.left;
        right = f.right;
        front = f.front;
        stands = f.stands;
        place = f.place;
        values = lowest vs;
        state = lowest_state good;
        missing = low_lacks vs f.left f.right (rw read at low);
      }

  -- where one lacks a value stands a `mod` that is asked, with such a divisor
  record Tested (before : List Lexeme) : Type 0 where
    rest : List Lexeme
    spelt : spell m ≡ before ++ (key k_mod ∷ rest)
    on : asks_after false before ≡ true
    low : low_divisor vs (read_atom rest) ≡ true

  of_lacking : (before : List Lexeme) → Lacking m before → Tested before
  unfolding low_divisor
  of_lacking before l =
      let c = spell_cond l.condition in
      let s = l.stands in
      let (post, file) = asked_stands l.asked in
      let read = atom_read l.right (s.back ++ post) in
      let inside : c ≡ (l.front ++ spell_atom l.left) ++ (key k_mod ∷ (spell_atom l.right ++ s.back)) =
      s.stands ∙ sym (append_assoc l.front (spell_atom l.left) _) in
      record {
        rest = spell_atom l.right ++ (s.back ++ post);
        spelt = file ∙ ap (λ (x : List Lexeme). l.pre ++ (x ++ post)) inside ∙ rw l.place (simp append_assoc);
        on =
            ap (asks_after false) l.place ∙ after_both false l.pre (l.front ++ spell_atom l.left)
            ∙ ap (λ (x : Bool). asks_after x (l.front ++ spell_atom l.left)) (asked_on l.asked)
            ∙ leave_front true (l.front ++ spell_atom l.left) _ (subst (Leave true) inside (leave_cond true l.condition));
        low = rw read (lacks_low l.left l.right l.state l.missing);
      }

  passing : Pass Bool (Unvalued m) (λ ts. lexemes ts ≡ spell m)
  unfolding unvalued Unvalued asks_after lexemes
  passing =
      record {
        find = λ on ts. unvalued vs on ts;
        test = λ on t ts. on && is_key k_mod t.lexeme && low_divisor vs (read_atom (lexemes ts));
        update = λ on t. asks on t.lexeme;
        Sums = λ on before. on ≡ asks_after false (lexemes before);
        at_end_lem = λ on. refl;
        at_token = λ on t ts. refl;
        goes_on = λ on before t h.
            ap (λ (b : Bool). asks b t.lexeme) h ∙ sym (after_both false (lexemes before) (t.lexeme ∷ []))
            ∙ ap (asks_after false) (sym (lexemes_append before (t ∷ [])));
        decides = λ on before t ts w h. (
          λ p.
              let q = both (on && is_key k_mod t.lexeme) (low_divisor vs (read_atom (lexemes ts))) p in
              let r = both on (is_key k_mod t.lexeme) q.0 in
              lacking_of (lexemes before) (lexemes ts) (sym w ∙ lexemes_append before (t ∷ ts)
              ∙ ap (λ (l : Lexeme). lexemes before ++ (l ∷ lexemes ts)) ((decides_key k_mod t.lexeme).0 r.1))
              (sym h ∙ r.0) q.1,
          λ l.
              let t' = of_lacking (lexemes before) l in
              let same : t.lexeme ∷ lexemes ts ≡ key k_mod ∷ t'.rest = append_cancel_left (lexemes before) _ _
              (sym (lexemes_append before (t ∷ ts)) ∙ w ∙ t'.spelt) in
              let is : t.lexeme ≡ key k_mod = head-eq_of_cons-eq same in
              let left : lexemes ts ≡ t'.rest = tail-eq_of_cons-eq same in
              bools.and (bools.and (h ∙ t'.on) ((decides_key k_mod t.lexeme).1 is)) (rw left t'.low),
        );
      }

  module _ (ts : List Token) (spelt : lexemes ts ≡ spell m) where
    pub unvalued_first : (k : ℕ) → (unvalued vs false ts ≡ some k) ↔ FirstOffends (Unvalued m) ts k
    unfolding passing asks_after lexemes
    unvalued_first k = (law passing false ts spelt refl).0 k

    none_offends : NoneLacks m ↔ NoneOffends (Unvalued m) ts
    unfolding NoneLacks NoneOffends Unvalued lexemes
    none_offends = ((λ h before after t e. h (lexemes before)), λ h before l. from_here h before l (of_lacking before l))
      where
        from_here : ((before after : List Token) (t : Token) → ts ≡ before ++ (t ∷ after) → Lacking m (lexemes before) → ⊥)
            → (before : List Lexeme) → Lacking m before → Tested before → ⊥
        from_here h before l t = go (cut ts before (key k_mod ∷ t.rest) (spelt ∙ t.spelt))
          where
            go : Cut ts before (key k_mod ∷ t.rest) → ⊥
            go c = at_token c.back c.whole c.left
              where
                at_token : (back : List Token) → ts ≡ c.front ++ back → lexemes back ≡ key k_mod ∷ t.rest → ⊥
                at_token [] w p = different (cc)
                at_token (u ∷ back) w p = h c.front back u w (subst (Lacking m) (sym c.passed) l)

    pub unvalued_none : (unvalued vs false ts ≡ none) ↔ NoneLacks m
    unfolding passing asks_after lexemes
    unvalued_none =
        let t = (law passing false ts spelt refl).1 in
        (λ e. none_offends.1 (t.0 e), λ h. t.1 (none_offends.0 h))

-- "in some state of the ranges": a remainder lacks a value in some state exactly where its divisor, a number or the
-- lowest value of a variable, is below 1 (R 6.37)
pub missing_iff : {vs : List Var} → GoodRanges vs → (a b : Atom)
    → ((as' : List ℤ) × State vs as' × (term_value vs as' (remainder a b) ≡ none))
    ↔ (less (atom_value vs (lowest vs) b) (pos 1) ≡ true)
missing_iff {vs} good a b =
    (λ t. lacks_low a b t.1 t.2, λ h. (lowest vs, lowest_state good, low_lacks vs a b h))

-- Behind 15 every condition that is asked has a value at every state

module _ (m : Monitor) (valued : NoneLacks m) {as' : List ℤ} (state : State (all m.vars) as') where
  asked_valued : {pre : List Lexeme} {c : Cond} → Asked m pre c
      → cond_value c (all m.vars) as' ≡ some (truth c (all m.vars) as')
  unfolding NoneLacks truth is_true
  asked_valued {pre} {c} asked = go (cond_value c (all m.vars) as') refl
    where
      go : (o : Option Bool) → cond_value c (all m.vars) as' ≡ o → o ≡ some (is_true o)
      go (some b) e = refl
      go none e =
          let t = (lacks_iff (all m.vars) as' c).0 e in
          absurd (valued (pre ++ (t.front ++ spell_atom t.left)) (record {
            pre = pre;
            condition = c;
            asked = asked;
            left = t.left;
            right = t.right;
            front = t.front;
            stands = t.stands;
            place = refl;
            values = as';
            state = state;
            missing = t.missing;
          }))

  pub keep_valued : cond_value m.keep (all m.vars) as' ≡ some (truth m.keep (all m.vars) as')
  keep_valued = asked_valued of_keep

  pub try_valued : (i : ℕ) (c : Cond) → IsTry m i c
      → cond_value c (all m.vars) as' ≡ some (truth c (all m.vars) as')
  unfolding IsTry
  try_valued i c e = let t = at_number c m.tries i e in asked_valued (of_try t.0 t.1 c t.2)

  in_some_method : (r : Region) (done ms : List Method) → all m.methods ≡ done ++ ms → (before after : List Region)
      → regions_of ms ≡ before ++ (r ∷ after)
      → cond_value r.guard (all m.vars) as' ≡ some (truth r.guard (all m.vars) as')
  unfolding regions_of
  in_some_method r done [] e before after q = absurd (none_there before q)
    where
      none_there : (before : List Region) → [] ≡ before ++ (r ∷ after) → ⊥
      none_there [] e = different (cc)
      none_there (b ∷ before) e = different (cc)
  in_some_method r done (x ∷ ms) e before after q =
      ⊎_elim (λ t. asked_valued (of_guard done ms x before t.0 r e t.1))
      (λ t. in_some_method r (done ++ (x ∷ [])) ms (e ∙ sym (append_assoc done (x ∷ []) ms)) t.0 after t.2)
      (in_one r (all x.regions) (regions_of ms) before after q)

  pub guard_valued : (k : ℕ) (r : Region) → IsRegion m k r
      → cond_value r.guard (all m.vars) as' ≡ some (truth r.guard (all m.vars) as')
  unfolding IsRegion
  guard_valued k r e =
      let t = at_number r (regions_of (all m.methods)) k e in
      in_some_method r [] (all m.methods) refl t.0 t.1 t.2
