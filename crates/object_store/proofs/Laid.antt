-- Texts that are laid over what was there, one behind the other.
use Rattle.std.proofs.Common.{◌≡◌, ℕ, zero, suc, ◌+◌, ◌-◌, ◌≤◌, ◌<◌, List, [], ◌∷◌, ◌++◌, length, take, drop, min, sym, ap, subst, ◌∙◌, append_assoc, arith, length-append, length-drop, length-take-le, take_at, drop_at, drop-drop, take-add, append-nil}
use Rattle.std.proofs.lemmas.List.{drop_all, take_rest, take-append-le}
use Rattle.std.proofs.lemmas.Grind.{common_steps}
use Rattle.object_store.specs.Pieces.{IsLaid}

-- behind a place in a text of two parts
pub drop_two : (n : ℕ) (a b : List ℕ) → drop n (a ++ b) ≡ drop n a ++ drop (n - length a) b
drop_two zero a b = let e : 0 - length a ≡ 0 = omega arith in ap (λ k. a ++ drop k b) (sym e)
drop_two (suc n) [] b = let e : suc n - length {A = ℕ} [] ≡ suc n = omega arith in ap (λ k. drop k b) (sym e)
drop_two (suc n) (x ∷ a) b = let e : suc n - length (x ∷ a) ≡ n - length a = omega arith in drop_two n a b ∙ ap (λ k. drop n a ++ drop k b) (sym e)

pub take_two : (n : ℕ) (a b : List ℕ) → take n (a ++ b) ≡ take n a ++ take (n - length a) b
take_two zero a b = let e : 0 - length a ≡ 0 = omega arith in ap (λ k. take k b) (sym e)
take_two (suc n) [] b = let e : suc n - length {A = ℕ} [] ≡ suc n = omega arith in ap (λ k. take k b) (sym e)
take_two (suc n) (x ∷ a) b = let e : suc n - length (x ∷ a) ≡ n - length a = omega arith in ap (λ l. x ∷ l) (take_two n a b ∙ ap (λ k. take n a ++ take k b) (sym e))

-- the first whole, or the second not begun
same_front : (a b : List ℕ) (n m o : ℕ) → n ≡ min o (length a) → m ≡ min (o - n) (length b) → take (n + m) (a ++ b) ≡ take n a ++ take m b
same_front a b n m o is then = rw (take_two (n + m) a b) (grind (arith, common_steps))

-- what is laid first and what is laid behind it
pub laid_two : (a b old mid sub new : List ℕ) (n m : ℕ) → IsLaid a old mid n → IsLaid b (drop n mid) sub m → new ≡ take n mid ++ sub → IsLaid (a ++ b) old new (n + m)
laid_two a b old mid sub new n m first second is =
    let k = length-append a b in
    let few : n ≤ length a = omega (arith, first.count) in
    let room : n ≤ length old = omega (arith, first.count) in
    let long : length (take n a) ≡ n = length-take-le n a few in
    let front : take n mid ≡ take n a = ap (take n) first.bytes ∙ take_at (take n a) (drop n old) n long in
    let back : drop n mid ≡ drop n old = ap (drop n) first.bytes ∙ drop_at (take n a) (drop n old) n long in
    let left : length (drop n mid) ≡ length old - n = ap length back ∙ length-drop n old in
    let count : m ≡ min (length old - n) (length b) = second.count ∙ ap (λ l. min l (length b)) left in
    let text = same_front a b n m (length old) first.count count in
    let behind : drop m (drop n mid) ≡ drop (n + m) old = ap (drop m) back ∙ drop-drop m n old in
    record {
      count = omega (arith, first.count, count, k);
      bytes = is ∙ ap (λ l. l ++ sub) front ∙ ap (λ l. take n a ++ l) second.bytes ∙ ap (λ l. take n a ++ (take m b ++ l)) behind
          ∙ sym (append_assoc (take n a) (take m b) (drop (n + m) old)) ∙ ap (λ l. l ++ drop (n + m) old) (sym text);
    }

-- the same of two parts behind a place, as calls one after another leave it
pub joined : (a b text old mid sub : List ℕ) (k j n m : ℕ) → IsLaid (drop k a) old mid n → IsLaid (drop j b) (take (length mid - n) (drop n mid)) sub m → j ≡ k - length a → a ++ b ≡ text
    → IsLaid (drop k text) old (take n mid ++ (sub ++ drop (length mid - n) (drop n mid))) (n + m)
joined a b text old mid sub k j n m first second place whole =
    let rest : take (length mid - n) (drop n mid) ≡ drop n mid = take_rest mid n in
    let none : drop (length mid - n) (drop n mid) ≡ [] = drop_all (length mid - n) (drop n mid) (omega (arith, length-drop n mid)) in
    let at : drop k a ++ drop j b ≡ drop k text = ap (λ i. drop k a ++ drop i b) place ∙ sym (drop_two k a b) ∙ ap (drop k) whole in
    let new : take n mid ++ (sub ++ drop (length mid - n) (drop n mid)) ≡ take n mid ++ sub = ap (λ l. take n mid ++ (sub ++ l)) none ∙ ap (λ l. take n mid ++ l) (append-nil sub) in
    subst (λ (t : List ℕ). IsLaid t old (take n mid ++ (sub ++ drop (length mid - n) (drop n mid))) (n + m)) at
    (laid_two (drop k a) (drop j b) old mid sub _ n m first (subst (λ (l : List ℕ). IsLaid (drop j b) l sub m) rest second) new)

-- what is left of a first part is laid, and so a front of all that is left
pub laid_some : (p b old new : List ℕ) (k n : ℕ) → IsLaid (drop k p) old new n → (n ≤ length old) × (n ≤ length (drop k (p ++ b))) × (new ≡ take n (drop k (p ++ b)) ++ drop n old)
laid_some p b old new k n laid =
    let few : n ≤ length (drop k p) = omega (arith, laid.count) in
    let two = drop_two k p b in
    let long = length-append (drop k p) (drop (k - length p) b) in
    let sum = ap length two in
    let front : take n (drop k (p ++ b)) ≡ take n (drop k p) = ap (take n) two ∙ take-append-le n (drop k p) (drop (k - length p) b) few in
    (omega (arith, laid.count), omega (arith, few, long, sum), laid.bytes ∙ ap (λ l. l ++ drop n old) (sym front))

-- nothing is laid of a part that isn't at its end only where there is no room
pub laid_none : (p old new : List ℕ) (k : ℕ) → IsLaid (drop k p) old new 0 → k < length p → length old ≡ 0
laid_none p old new k laid more = let is = laid.count in let d = length-drop k p in omega (arith, is, d, more)

-- some more behind what is laid
pub laid_on : (text old now sub left : List ℕ) (done n : ℕ) → done ≤ length text → done ≤ length old → now ≡ take done text ++ drop done old → left ≡ drop done text
    → sub ≡ take n left ++ drop n (take (length now - done) (drop done now))
    → take done now ++ (sub ++ drop (length now - done) (drop done now)) ≡ take (done + n) text ++ drop (done + n) old
laid_on text old now sub left done n few room is rest part =
    let long : length (take done text) ≡ done = length-take-le done text few in
    let front : take done now ≡ take done text = ap (take done) is ∙ take_at (take done text) (drop done old) done long in
    let back : drop done now ≡ drop done old = ap (drop done) is ∙ drop_at (take done text) (drop done old) done long in
    let all : take (length now - done) (drop done now) ≡ drop done old = take_rest now done ∙ back in
    let none : drop (length now - done) (drop done now) ≡ [] = drop_all (length now - done) (drop done now) (omega (arith, length-drop done now)) in
    let more : sub ≡ take n (drop done text) ++ drop (done + n) old = part ∙ ap (λ l. take n l ++ drop n (take (length now - done) (drop done now))) rest ∙ ap (λ l. take n (drop done text) ++ drop n l) all ∙ ap (λ l. take n (drop done text) ++ l) (drop-drop n done old) in
    ap (λ l. take done now ++ (sub ++ l)) none ∙ ap (λ l. take done now ++ l) (append-nil sub) ∙ ap (λ l. l ++ sub) front ∙ ap (λ l. take done text ++ l) more
    ∙ sym (append_assoc (take done text) (take n (drop done text)) (drop (done + n) old)) ∙ ap (λ l. l ++ drop (done + n) old) (sym (take-add done n text))

-- a place behind a first part
pub drop_over : (n : ℕ) (a b : List ℕ) → length a ≤ n → drop n (a ++ b) ≡ drop (n - length a) b
drop_over n a b over = drop_two n a b ∙ ap (λ l. l ++ drop (n - length a) b) (drop_all n a over)
