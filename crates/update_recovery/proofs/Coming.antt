-- One target after another makes a step.
use Rattle.std.specs.Prelude.{OnOk, OnErr, is_err}
use Rattle.std.specs.List.{list_any}
use Rattle.std.proofs.Common.{◌≡◌, ◌≢◌, ℕ, zero, suc, ◌+◌, ◌<◌, ◌≤◌, ◌⊎◌, Bool, true, false, ◌==◌, ◌||◌, if◌then◌else◌, List, [], ◌∷◌, ◌++◌, length, slice_get, get_or, set, take, length-set, append-nil, append_assoc, Some, Result, Ok, Err, refl, sym, ap, ap₂, subst, ◌∙◌, arith, inl, inr}
use Rattle.std.proofs.lemmas.Bool.{false≢true}
use Rattle.std.proofs.lemmas.Bool.Decides.{eqb_tells}
use Rattle.std.proofs.lemmas.Option.{same_Some, none-some}
use Rattle.target_node.specs.declared.fault.NodeFault.{NodeFault}
use Rattle.target_node.specs.declared.fault.NodeFault.TheVariants as fault
use Rattle.target_node.specs.Node.{NodeState}
use Rattle.update_recovery.specs.declared.standing.Standing.TheVariants as standing
use Rattle.update_recovery.specs.Gathering.{stopped_at}
use Rattle.update_recovery.specs.Disks.{WhereDisk, WhereMemory}
use Rattle.update_recovery.specs.Steps.{HasCome, AllCame, HasStopped, HasLost, told_from}

pub get_here : {X : Type 0} (xs : List X) (i : ℕ) (x : X) → i < length xs → slice_get (set xs i x) i ≡ Some x
get_here [] i x low = absurd (omega (arith, low))
get_here (y ∷ ys) zero x low = refl
get_here (y ∷ ys) (suc i) x low = get_here ys i x (omega (arith, low))

pub get_other : {X : Type 0} (xs : List X) (i k : ℕ) (x : X) → k ≢ i → slice_get (set xs i x) k ≡ slice_get xs k
get_other [] i k x apart = refl
get_other (y ∷ ys) zero zero x apart = absurd (apart refl)
get_other (y ∷ ys) zero (suc k) x apart = refl
get_other (y ∷ ys) (suc i) zero x apart = refl
get_other (y ∷ ys) (suc i) (suc k) x apart = get_other ys i k x (λ same. apart (ap suc same))

neither : (a b : Bool) → (a || b) ≡ false → (a ≡ false) × (b ≡ false)
neither true b h = absurd (false≢true (sym h))
neither false b h = (refl, h)

nat_cases : (k n : ℕ) → (k < n) ⊎ (n ≤ k)
nat_cases k zero = inr (omega arith)
nat_cases zero (suc n) = inl (omega arith)
nat_cases (suc k) (suc n) = elim (nat_cases k n) [ inl low ↦ inl (omega (arith, low)) | inr high ↦ inr (omega (arith, high)) ]

module _ {X : Type 0} (Does : ℕ → X → X → Type 0) where
  pub all_came : (place : ℕ) (old new : List X) → place ≡ length old → HasCome Does place old new → AllCame Does old new
  all_came place old new end come = subst (λ (n : ℕ). HasCome Does n old new) end come

  module _ (place : ℕ) (old mid : List X) (m n : X) (low : place < length mid) (was : slice_get mid place ≡ Some m) (come : HasCome Does place old mid) where
    was_old : (o : X) → slice_get old place ≡ Some o → m ≡ o
    was_old o get = same_Some m o (sym was ∙ come.after place (omega arith) ∙ get)

    kept : (k : ℕ) (o : X) → k < place → slice_get old k ≡ Some o → (x : X) × (slice_get (set mid place n) k ≡ Some x) × Does k o x
    kept k o below get =
        let b = come.before k o below get in
        (b.0, get_other mid place k n (λ same. omega (arith, below, same)) ∙ b.1, b.2)

    long : length (set mid place n) ≡ length old
    long = length-set mid place n ∙ come.long

    untouched : (k : ℕ) → place < k → slice_get (set mid place n) k ≡ slice_get old k
    untouched k above = get_other mid place k n (λ same. omega (arith, above, same)) ∙ come.after k (omega (arith, above))

    pub come_on : Does place m n → HasCome Does (place + 1) old (set mid place n)
    come_on does = record {
      long = long;
      before = λ k o below get.
          elim (eqb_tells k place) [
            | inl same ↦
                let at = subst (λ (j : ℕ). slice_get old j ≡ Some o) same.1 get in
                (n, ap (λ (j : ℕ). slice_get (set mid place n) j) same.1 ∙ get_here mid place n low, subst (λ (j : ℕ). Does j o n) (sym same.1) (subst (λ (x : X). Does place x n) (was_old o at) does))
            | inr differ ↦ kept k o (let d = differ.1 in grind (arith, d, below)) get
          ];
      after = λ k above. untouched k (omega (arith, above));
    }

    pub stopped_here : (Fails : ℕ → X → X → Type 0) → Fails place m n → HasStopped Does Fails place old (set mid place n)
    stopped_here Fails fails = record {
      long = long;
      low = (let l = come.long in omega (arith, low, l));
      before = kept;
      here = λ o get. (n, get_here mid place n low, subst (λ (x : X). Fails place x n) (was_old o get) fails);
      after = untouched;
    }

    pub lost_here : (Keeps : ℕ → X → X → Type 0) → ((k : ℕ) (o : X) → Keeps k o o) → Does place m n ⊎ Keeps place m n → HasLost Does Keeps old (set mid place n)
    lost_here Keeps same either = record {
      long = long;
      each = λ k o get.
          elim (eqb_tells k place) [
            | inl same ↦
                let at = subst (λ (j : ℕ). slice_get old j ≡ Some o) same.1 get in
                (n, ap (λ (j : ℕ). slice_get (set mid place n) j) same.1 ∙ get_here mid place n low, subst (λ (j : ℕ). Does j o n ⊎ Keeps j o n) (sym same.1) (subst (λ (x : X). Does place x n ⊎ Keeps place x n) (was_old o at) either))
            | inr differ ↦
                elim (nat_cases k place) [
                  | inl below ↦ let b = kept k o below get in (b.0, b.1, inl b.2)
                  | inr above ↦ (o, untouched k (let d = differ.1 in grind (arith, d, above)) ∙ get, inr (same k o))
                ]
          ];
    }

  pub lost_none : (Keeps : ℕ → X → X → Type 0) (place : ℕ) (old new : List X) → ((k : ℕ) (o : X) → Keeps k o o) → HasCome Does place old new → HasLost Does Keeps old new
  lost_none Keeps place old new same come = record {
    long = come.long;
    each = λ k o get.
        elim (nat_cases k place) [
          | inl below ↦ let b = come.before k o below get in (b.0, b.1, inl b.2)
          | inr above ↦ (o, come.after k above ∙ get, inr (same k o))
        ];
  }

-- ---- what is told of each

told_more : {X Y : Type 0} (tells : ℕ → X → List Y) (p i : ℕ) (xs : List X) (x : X) → slice_get xs i ≡ Some x → told_from tells p (take (suc i) xs) ≡ told_from tells p (take i xs) ++ tells (p + i) x
told_more tells p i [] x get = absurd (none-some x get)
told_more tells p zero (y ∷ ys) x get = append-nil (tells p y) ∙ ap (tells p) (same_Some y x get) ∙ ap (λ (k : ℕ). tells k x) (omega arith)
told_more {X} {Y} tells p (suc i) (y ∷ ys) x get =
    ap (λ (zs : List Y). tells p y ++ zs) (told_more tells (p + 1) i ys x get)
    ∙ sym (append_assoc (tells p y) (told_from tells (p + 1) (take i ys)) (tells (p + 1 + i) x))
    ∙ ap (λ (k : ℕ). (tells p y ++ told_from tells (p + 1) (take i ys)) ++ tells k x) (omega arith)

pub told_next : {X Y : Type 0} (tells : ℕ → X → List Y) (i : ℕ) (xs : List X) (x : X) (before now start : List Y) → slice_get xs i ≡ Some x → before ≡ start ++ told_from tells 0 (take i xs) → now ≡ before ++ tells i x → now ≡ start ++ told_from tells 0 (take (i + 1) xs)
told_next {X} {Y} tells i xs x before now start get so step =
    let at : i ≡ 0 + i = omega arith in
    let at_next : suc i ≡ i + 1 = omega arith in
    step ∙ ap (λ (zs : List Y). zs ++ tells i x) so
    ∙ append_assoc start (told_from tells 0 (take i xs)) (tells i x)
    ∙ ap (λ (k : ℕ). start ++ (told_from tells 0 (take i xs) ++ tells k x)) at
    ∙ ap (λ (zs : List Y). start ++ zs) (sym (told_more tells 0 i xs x get))
    ∙ ap (λ (k : ℕ). start ++ told_from tells 0 (take k xs)) at_next

-- ---- what came of a call

pub ok_then : {T E P : Type 0} (r : Result T E) → is_err r ≡ false → OnOk r P → P
ok_then (Ok x) is p = p
ok_then (Err e) is p = absurd (false≢true (sym is))

pub err_then : {T E P : Type 0} (r : Result T E) → is_err r ≡ true → OnErr r P → P
err_then (Ok x) is p = absurd (false≢true is)
err_then (Err e) is p = p

pub disk_then : (T : Type 0) {P : Type 0} (e : NodeFault) → e ≡ fault.Disk → WhereDisk {T = T} (Err e) P → P
disk_then T {P} e is p = subst (λ (f : NodeFault). WhereDisk {T = T} (Err f) P) is p

pub memory_then : (T : Type 0) {P : Type 0} (e : NodeFault) → e ≡ fault.Memory → WhereMemory {T = T} (Err e) P → P
memory_then T {P} e is p = subst (λ (f : NodeFault). WhereMemory {T = T} (Err f) P) is p

-- ---- none of a list is such

pub none_at : {X : Type 0} (f : X → Bool) (xs : List X) (i : ℕ) (d : X) → i < length xs → list_any f xs ≡ false → f (get_or xs i d) ≡ false
none_at f [] i d low none = absurd (omega (arith, low))
none_at f (x ∷ xs) zero d low none = (neither (f x) (list_any f xs) none).0
none_at f (x ∷ xs) (suc i) d low none = none_at f xs i d (omega (arith, low)) (neither (f x) (list_any f xs) none).1

pub none_set : {X : Type 0} (f : X → Bool) (xs : List X) (i : ℕ) (x : X) → list_any f xs ≡ false → f x ≡ false → list_any f (set xs i x) ≡ false
none_set f [] i x none is = none
none_set f (y ∷ ys) zero x none is = ap (λ b. b || list_any f ys) is ∙ (neither (f y) (list_any f ys) none).1
none_set f (y ∷ ys) (suc i) x none is = ap (λ b. b || list_any f (set ys i x)) (neither (f y) (list_any f ys) none).0 ∙ none_set f ys i x (neither (f y) (list_any f ys) none).1 is

-- ---- how many are handed back

pub stopped_long : {D : Type 0} (down place : ℕ) (ns : List (NodeState D)) → length (told_from (stopped_at down) place ns) ≡ length ns
stopped_long down place [] = refl
stopped_long down place (n ∷ ns) = ap suc (stopped_long down (place + 1) ns)

-- which of them is down, and which are opened
pub handed_at : {D : Type 0} (down place k : ℕ) (ns : List (NodeState D)) (n : NodeState D) → slice_get ns k ≡ Some n → slice_get (told_from (stopped_at down) place ns) k ≡ Some (if place + k == down then standing.Down n.disk else standing.Opened n)
handed_at down place k [] n get = absurd (none-some n get)
handed_at {D} down place zero (m ∷ ns) n get =
    ap₂ (λ (x : NodeState D) (p : ℕ). Some (if p == down then standing.Down x.disk else standing.Opened x)) (same_Some m n get) (omega arith)
handed_at {D} down place (suc k) (m ∷ ns) n get =
    handed_at down (place + 1) k ns n get
    ∙ ap (λ (p : ℕ). Some (if p == down then standing.Down n.disk else standing.Opened n)) (omega arith)
