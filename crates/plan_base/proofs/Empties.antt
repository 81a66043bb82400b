-- One part further, and where a question stops.
use Rattle.std.proofs.Common.{◌≡◌, ◌==◌, ◌&&◌, ℕ, zero, suc, Bool, true, false, Option, Some, None, Result, Ok, Err, refl, sym, ap, subst, ◌∙◌}
use Rattle.fid_space.specs.declared.fid.Fid.{Fid}
use Rattle.striped_dir.specs.declared.layout.Layout.{Layout}
use Rattle.plan_base.specs.declared.question.Stop.{Stop}
use Rattle.plan_base.specs.declared.question.Stop.TheVariants as stop
use Rattle.plan_base.specs.Stops.{◌>>=◌, Halts, HaltsAt}
use Rattle.plan_base.specs.Told.{Told, count_told}
use Rattle.plan_base.specs.Asks.{none_told, then_stop}

pub halted : {A : Type 0} → (e : Stop) (r : Result A Stop) (next : A → Option Stop) → Halts e r → HaltsAt e (then_stop r next)
halted stop.Memory r next h = tt
halted (stop.Ask q) r next h = ap (λ x. then_stop x next) h
halted (stop.Refused n) r next h = ap (λ x. then_stop x next) h

pub stopped : {A B : Type 0} → (e : Stop) (r : Result A Stop) (f : A → Result B Stop) → Halts e r → Halts e (r >>= f)
stopped stop.Memory r f h = tt
stopped (stop.Ask q) r f h = ap (λ x. x >>= f) h
stopped (stop.Refused n) r f h = ap (λ x. x >>= f) h

together : (a b c : Bool) → (a && (b && c)) ≡ ((a && b) && c)
together true b c = refl
together false b c = refl

both : (b : Bool) → (b && true) ≡ b
both true = refl
both false = refl

none_on : (t : Told) (d : Fid) (l : Layout) (i n k : ℕ) → n ≡ suc k
    → none_told t d l i n ≡ (count_told t d l i >>= (λ c. none_told t d l (suc i) k >>= (λ rest. Ok ((c == 0) && rest))))
unfolding none_told
none_on t d l i n k e = ap (λ m. none_told t d l i m) e

rests : (r : Result Bool Stop) (b c : Bool) → ((r >>= (λ rest. Ok (c && rest))) >>= (λ rest. Ok (b && rest))) ≡ (r >>= (λ rest. Ok ((b && c) && rest)))
rests (Ok x) b c = ap Ok (together b c x)
rests (Err e) b c = refl

pub one_more : (t : Told) (d : Fid) (l : Layout) (i j n k : ℕ) (b : Bool) (c : ℕ) → n ≡ suc k → j ≡ suc i → count_told t d l i ≡ Ok c
    → (none_told t d l j k >>= (λ rest. Ok ((b && (c == 0)) && rest))) ≡ (none_told t d l i n >>= (λ rest. Ok (b && rest)))
one_more t d l i j n k b c e f g =
    ap (λ m. none_told t d l m k >>= (λ rest. Ok ((b && (c == 0)) && rest))) f
    ∙ sym (ap (λ x. x >>= (λ rest. Ok (b && rest))) (none_on t d l i n k e ∙ ap (λ r. r >>= (λ c. none_told t d l (suc i) k >>= (λ rest. Ok ((c == 0) && rest)))) g)
    ∙ rests (none_told t d l (suc i) k) b (c == 0))

pub stops_here : (t : Told) (d : Fid) (l : Layout) (i n k : ℕ) (b : Bool) (e : Stop) → n ≡ suc k → Halts e (count_told t d l i) → Halts e (none_told t d l i n >>= (λ rest. Ok (b && rest)))
stops_here t d l i n k b e f h =
    stopped e (none_told t d l i n) (λ rest. Ok (b && rest))
    (subst (Halts e) (sym (none_on t d l i n k f)) (stopped e (count_told t d l i) (λ c. none_told t d l (suc i) k >>= (λ rest. Ok ((c == 0) && rest))) h))

pub ended : (t : Told) (d : Fid) (l : Layout) (i n : ℕ) (b : Bool) → n ≡ 0 → (none_told t d l i n >>= (λ rest. Ok (b && rest))) ≡ Ok b
unfolding none_told
ended t d l i n b e = ap (λ m. none_told t d l i m >>= (λ rest. Ok (b && rest))) e ∙ ap Ok (both b)
