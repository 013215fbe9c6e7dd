-- `layout::Tokens::same_token` meets its contract: each return is a law on the kinds, values and bytes of two lexemes.
use native.Mathlib.Omega.{arith}
use Prim.Native.Nat.{◌+◌, ◌-◌, ◌≤◌}
use mathlib.Core.Path.{◌≡◌, ◌∙◌}
use mathlib.Core.List.{List}
use lib.ListN.{length, drop, take}
use Rattle.syntax.specs.Bytes.{same_bytes}
use Rattle.syntax.specs.Token.{Token}
use Rattle.meaning.specs.Model.{same_lexeme}
use Rattle.syntax.specs.Held.Kind.{Words}
use Rattle.layout.specs.Promises.{lexeme_at}
use Rattle.layout.proofs.Same.{bytes_same, kinds_differ, values_differ, no_names, first_fits, second_fits, names_agree}
use Rattle.layout.proofs.Tokens.same_token.Goals as goal
use Rattle.layout.proofs.Tokens.same_token.Goals.{After-from-y}

pub returns-then-self-a : goal.returns-then-self-a
returns-then-self-a c =
    let s = c in
    let a = s.args in
    λ ts w. kinds_differ w a.a a.b s.requires.0 s.requires.1 c.if-self-a.true

pub returns-then-self-a-2 : goal.returns-then-self-a-2
returns-then-self-a-2 c =
    let s = c in
    let a = s.args in
    λ ts w. values_differ w a.a a.b s.requires.0 s.requires.1 c.if-self-a-2.true

pub returns-then-self-a-ne-NAME : goal.returns-then-self-a-ne-NAME
returns-then-self-a-ne-NAME c =
    let s = c in
    let a = s.args in
    λ ts w. no_names w a.a a.b s.requires.0 s.requires.1
    c.if-self-a.false c.if-self-a-2.false c.if-self-a-ne-NAME.true

-- both are names: they are in the file, and their bytes tell whether they are the same
names :
    (q : After-from-y) (ts : List Token)
    → (let r = q in
    let a = r.args in
    let x = q.from-x.result in
    let y = q.from-y.result in
    let n = q.from-n.result in
    Words a.self.file.now ts a.self.kinds.now a.self.values.now a.self.places.now
    → (x + n ≤ length a.self.file.now) × (y + n ≤ length a.self.file.now)
    × (same_bytes (take n (drop x a.self.file.now)) (take n (drop y a.self.file.now))
    ≡ same_lexeme (lexeme_at ts a.a) (lexeme_at ts a.b)))
names q ts w =
    let r = q in
    let s = r in
    let a = s.args in
    let kind = q.if-self-a.false in
    let value = q.if-self-a-2.false in
    let named = q.if-self-a-ne-NAME.false in
    let length = q.from-n.ensures in
    rw (length, q.from-x.ensures, q.from-y.ensures) (
      first_fits w a.a a.b s.requires.0 s.requires.1 kind value named,
      second_fits w a.a a.b s.requires.0 s.requires.1 kind value named,
      names_agree w a.a a.b s.requires.0 s.requires.1 kind value named,
    )

pub returns-then-self-x : goal.returns-then-self-x
returns-then-self-x c = λ ts w. absurd (omega (arith, c.if-self-x.true, (names (goal.at.returns-then-self-x c).After-from-y ts w).0))

pub returns-then-self-y : goal.returns-then-self-y
returns-then-self-y c = λ ts w. absurd (omega (arith, c.if-self-y.true, (names (goal.at.returns-then-self-y c).After-from-y ts w).1))

pub returns : goal.returns
returns c =
    let n = c.from-n.result in
    let x = c.from-x.result in
    let y = c.from-y.result in
    let first : x + n - x ≡ n = omega arith in
    let second : y + n - y ≡ n = omega arith in
    λ ts w. c.eq.ensures ∙ rw (first, second) (bytes_same _ _ ∙ (names (goal.at.returns c).After-from-y ts w).2)
