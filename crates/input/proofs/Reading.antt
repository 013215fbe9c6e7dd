-- What one read after another leaves in a buffer, and has taken of what the reader had.
use Rattle.std.proofs.Common.{None, Some, append_assoc, ℕ, ◌+◌, ◌≤◌, ◌<◌, ◌≡◌, List, [], ◌++◌, refl, sym, ap, ◌∙◌, subst, length, take, drop, min, arith, length-take-le, take-append-drop, drop_at}
use lib.Seq.{take-take, drop-append-le, take-append-le}
use Rattle.std.specs.declared.option.Option.{Option}
use Rattle.std.specs.Io.KnownBytes.{Consumes}
use Rattle.std.proofs.lemmas.List.{drop_all, length-take, drop-take}
use Rattle.input.specs.Kept.{Keeps}

-- what keeps the bytes before a later place keeps those before an earlier one
pub keeps_on : {from done n : ℕ} {a b c : List ℕ} → Keeps from a done b → done < length b → Keeps done b n c
    → Keeps from a n c
keeps_on {from} {done} {n} {a} {b} {c} k h l =
    let less : from ≤ done = omega (arith, k.size, k.counted) in
    record {
      size = l.size ∙ k.size;
      first = sym (take-take from done c less) ∙ ap (take from) l.first ∙ take-take from done b less ∙ k.first;
      counted = omega (arith, k.size, k.counted, l.counted);
    }

consumes_none : (a : Option (List ℕ)) → Consumes a a []
consumes_none None = tt
consumes_none (Some x) = refl

consumes_both : (a b c : Option (List ℕ)) (bs cs : List ℕ) → Consumes a b bs → Consumes b c cs → Consumes a c (bs ++ cs)
consumes_both None b c bs cs p q = tt
consumes_both (Some x) None c bs cs p q = absurd p
consumes_both (Some x) (Some y) None bs cs p q = absurd q
consumes_both (Some x) (Some y) (Some z) bs cs p q = p ∙ ap (λ l. bs ++ l) q ∙ sym (append_assoc bs cs z)

-- what was read into the part stands behind the front
pub read_in_place : (a b : Option (List ℕ)) (n : ℕ) (front part rest : List ℕ) (at : ℕ) → length front ≡ at → n ≤ length part
    → Consumes a b (take n part) → Consumes a b (drop at (take (at + n) (front ++ (part ++ rest))))
read_in_place a b n front part rest at long fits read =
    let same : drop at (take (at + n) (front ++ (part ++ rest))) ≡ take n part =
    drop-take at n _ ∙ ap (take n) (drop_at front (part ++ rest) at long) ∙ take-append-le n part rest fits in
    subst (Consumes a b) (sym same) read

-- nothing is taken at first
pub none_read : (a : Option (List ℕ)) (from : ℕ) (xs : List ℕ) → Consumes a a (drop from (take (min from (length xs)) xs))
none_read a from xs =
    let none : drop from (take (min from (length xs)) xs) ≡ [] = drop_all from _ (omega (arith, length-take (min from (length xs)) xs)) in
    subst (Consumes a a) (sym none) (consumes_none a)

-- what was taken up to f, and then from f to n, stands from the first place to n
pub read_more : (a b c : Option (List ℕ)) (xs ys : List ℕ) (from f n : ℕ) → from ≤ f → f ≤ n → n ≤ length ys
    → take f ys ≡ take f xs → Consumes a b (drop from (take f xs)) → Consumes b c (drop f (take n ys))
    → Consumes a c (drop from (take n ys))
read_more a b c xs ys from f n p q r same before more =
    let front : take f (take n ys) ≡ take f xs = take-take f n ys q ∙ same in
    let long : length (take f xs) ≡ f = sym (ap length same) ∙ length-take-le f ys (omega arith) in
    let joined : drop from (take n ys) ≡ drop from (take f xs) ++ drop f (take n ys) =
    ap (drop from) (sym (take-append-drop f (take n ys)) ∙ ap (λ l. l ++ drop f (take n ys)) front)
    ∙ drop-append-le from (take f xs) (drop f (take n ys)) (omega arith) in
    subst (Consumes a c) (sym joined) (consumes_both a b c _ _ before more)

-- a turn of reading on: what stood in the buffer and was taken before it, and after it
pub turn : {from done n : ℕ} {xs ys zs : List ℕ} (a b c : Option (List ℕ)) → Keeps from xs done ys → done < length ys
    → Consumes a b (drop from (take done ys)) → Keeps done ys n zs → n ≤ length zs → Consumes b c (drop done (take n zs))
    → Keeps from xs n zs × Consumes a c (drop from (take n zs))
turn {from} {done} {n} {xs} {ys} {zs} a b c k h before l fits more = (
  keeps_on k h l,
  read_more a b c ys zs from done n (omega (arith, k.size, k.counted)) (omega (arith, l.counted)) fits l.first before more,
)
