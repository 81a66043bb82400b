-- A body that is read is one that is allowed, and each of these is read again.
use Rattle.std.proofs.Common.{◌≡◌, ℕ, ◌^◌, ◌%◌, ◌<◌, ◌≤◌, Bool, true, false, cond, eqb, List, ◌++◌, Ok, refl, sym, ap, subst, ◌∙◌, append_assoc, arith}
use Rattle.std.specs.Int.{w8, w16, w32, w64}
use Rattle.std.proofs.lemmas.Bool.Decides.{nat_tests}
use Rattle.byte_grammar.specs.Numbers.{IsBytes, word}
use Rattle.byte_grammar.proofs.Bytes.{wide8, wide16, wide32, wide64}
use Rattle.fid_space.specs.declared.fid.Fid.{Fid}
use Rattle.fid_space.specs.FidText.{IsFid}
use Rattle.out_update.specs.Spelling.{fid_bytes}
use Rattle.striped_dir.specs.declared.layout.Layout.{Layout}
use Rattle.striped_dir.specs.Layouts.{laid, layout_text}
use Rattle.object_store.specs.declared.body.Body.{Body}
use Rattle.object_store.specs.declared.body.ObjectKind.{ObjectKind}
use Rattle.object_store.specs.declared.body.ObjectKind.TheVariants.{File, Directory, Stripe}
use Rattle.object_store.specs.declared.limits.Limits.{Limits}
use Rattle.object_store.specs.Bodies.{number_of, may_be, is_allowed, body_bytes}
use Rattle.object_store.specs.Objects.{kind_of, kind_again}
use Rattle.object_store.specs.ImageReading.{number_at, fid_at, most32, most64, limits_of, layout_at, numbers_at, body_at}
use Rattle.object_store.proofs.ImageFields.{bind_ok, ok_is, Takes, Takes-then, number_is, number_takes, number_again}

-- ---- FIDs

pub record IsFidTo (seq number : ℕ) (f : Fid) : Type 0 where
  pub is_fid : IsFid f
  pub seq_most : f.seq ≤ seq
  pub oid_most : f.oid ≤ number
  pub ver_most : f.ver ≤ number

pub fid_takes : (seq number len : ℕ) (bytes : List ℕ) (f : Fid) (rest : List ℕ) → IsBytes bytes → fid_at seq number len bytes ≡ Ok (f, rest) → Takes bytes (fid_bytes f) rest × IsFidTo seq number f
unfolding fid_at
fid_takes seq number len bytes f rest fits e =
    let a = bind_ok {A = ℕ × List ℕ} _ _ _ e in
    let b = bind_ok {A = ℕ × List ℕ} _ _ _ a.2 in
    let c = bind_ok {A = ℕ × List ℕ} _ _ _ b.2 in
    let s = number_takes w64 wide64 0 seq len bytes a.0.0 a.0.1 fits a.1 in
    let o = number_takes w32 wide32 0 number len a.0.1 b.0.0 b.0.1 s.0.fits b.1 in
    let v = number_takes w32 wide32 0 number len b.0.1 c.0.0 c.0.1 o.0.fits c.1 in
    let made : Fid = record { seq = a.0.0; oid = b.0.0; ver = c.0.0 } in
    let limits : IsFidTo seq number made = record {
      is_fid = (s.1, o.1, v.1);
      seq_most = (number_is w64 0 seq len bytes a.0.0 a.0.1 a.1).at_most;
      oid_most = (number_is w32 0 number len a.0.1 b.0.0 b.0.1 b.1).at_most;
      ver_most = (number_is w32 0 number len b.0.1 c.0.0 c.0.1 c.1).at_most;
    } in
    subst (λ (p : Fid × List ℕ). Takes bytes (fid_bytes p.0) p.1 × IsFidTo seq number p.0) (ok_is (made, c.0.1) (f, rest) c.2) (Takes-then s.0 (Takes-then o.0 v.0), limits)

pub fid_again : (seq number len : ℕ) (f : Fid) (rest : List ℕ) → IsFidTo seq number f → fid_at seq number len (fid_bytes f ++ rest) ≡ Ok (f, rest)
unfolding fid_at
fid_again seq number len f rest is =
    rw (
      append_assoc (word w64 f.seq) (word w32 f.oid ++ word w32 f.ver) rest,
      append_assoc (word w32 f.oid) (word w32 f.ver) rest,
      number_again w64 wide64 0 seq len f.seq (word w32 f.oid ++ (word w32 f.ver ++ rest)) (omega arith) is.seq_most is.is_fid.0,
      number_again w32 wide32 0 number len f.oid (word w32 f.ver ++ rest) (omega arith) is.oid_most is.is_fid.1,
      number_again w32 wide32 0 number len f.ver rest (omega arith) is.ver_most is.is_fid.2,
    ) refl

pub any_fid : (f : Fid) → IsFid f → IsFidTo most64 most32 f
any_fid f is = record { is_fid = is; seq_most = omega (arith, is.0); oid_most = omega (arith, is.1); ver_most = omega (arith, is.2) }

-- ---- layouts

pub record IsLayoutTo (most : Limits) (l : Layout) : Type 0 where
  pub count_most : l.count ≤ most.stripes
  pub start_most : l.start ≤ cond (eqb l.count 0) 0 15
  pub generation_most : l.generation ≤ most.generation
  pub generation_fits : l.generation < 2 ^ 32

start_below : (count start : ℕ) → start ≤ cond (eqb count 0) 0 15 → start < 256
start_below count start h = below (eqb count 0) h
  where
    below : (b : Bool) → start ≤ cond b 0 15 → start < 256
    below true h = omega (arith, h)
    below false h = omega (arith, h)

layout_words : (l : Layout) → l.count < 256 → l.start < 256 → word w8 l.count ++ (word w8 l.start ++ (word w16 0 ++ word w32 l.generation)) ≡ layout_text (laid l)
unfolding word
layout_words l c s =
    let count : l.count % 256 ≡ l.count = omega (arith, c) in
    let start : l.start % 256 ≡ l.start = omega (arith, s) in
    rw (count, start) refl

pub layout_takes : (most : Limits) (len : ℕ) (bytes : List ℕ) (l : Layout) (rest : List ℕ) → IsBytes bytes → layout_at most len bytes ≡ Ok (l, rest) → Takes bytes (layout_text (laid l)) rest × IsLayoutTo most l
unfolding layout_at
layout_takes most len bytes l rest fits e =
    let a = bind_ok {A = ℕ × List ℕ} _ _ _ e in
    let b = bind_ok {A = ℕ × List ℕ} _ _ _ a.2 in
    let c = bind_ok {A = ℕ × List ℕ} _ _ _ b.2 in
    let d = bind_ok {A = ℕ × List ℕ} _ _ _ c.2 in
    let count = number_takes w8 wide8 0 most.stripes len bytes a.0.0 a.0.1 fits a.1 in
    let start = number_takes w8 wide8 0 (cond (eqb a.0.0 0) 0 15) len a.0.1 b.0.0 b.0.1 count.0.fits b.1 in
    let space = number_takes w16 wide16 0 0 len b.0.1 c.0.0 c.0.1 start.0.fits c.1 in
    let generation = number_takes w32 wide32 0 most.generation len c.0.1 d.0.0 d.0.1 space.0.fits d.1 in
    let none : c.0.0 ≡ 0 = omega (arith, (number_is w16 0 0 len b.0.1 c.0.0 c.0.1 c.1).at_most) in
    let made : Layout = record { count = a.0.0; start = b.0.0; generation = d.0.0 } in
    let limits : IsLayoutTo most made = record {
      count_most = (number_is w8 0 most.stripes len bytes a.0.0 a.0.1 a.1).at_most;
      start_most = (number_is w8 0 (cond (eqb a.0.0 0) 0 15) len a.0.1 b.0.0 b.0.1 b.1).at_most;
      generation_most = (number_is w32 0 most.generation len c.0.1 d.0.0 d.0.1 d.1).at_most;
      generation_fits = generation.1;
    } in
    let blank : Takes b.0.1 (word w16 0) c.0.1 = subst (λ (n : ℕ). Takes b.0.1 (word w16 n) c.0.1) none space.0 in
    let parts : Takes bytes (layout_text (laid made)) d.0.1 =
    subst (λ (t : List ℕ). Takes bytes t d.0.1) (layout_words made (omega (arith, count.1)) (omega (arith, start.1))) (Takes-then count.0 (Takes-then start.0 (Takes-then blank generation.0))) in
    subst (λ (p : Layout × List ℕ). Takes bytes (layout_text (laid p.0)) p.1 × IsLayoutTo most p.0) (ok_is (made, d.0.1) (l, rest) d.2) (parts, limits)

pub layout_again : (most : Limits) (len : ℕ) (l : Layout) (rest : List ℕ) → most.stripes < 256 → IsLayoutTo most l → layout_at most len (layout_text (laid l) ++ rest) ≡ Ok (l, rest)
unfolding layout_at
layout_again most len l rest byte is =
    let count : l.count < 256 = omega (arith, is.count_most, byte) in
    let start : l.start < 256 = start_below l.count l.start is.start_most in
    let text : layout_text (laid l) ++ rest ≡ word w8 l.count ++ (word w8 l.start ++ (word w16 0 ++ (word w32 l.generation ++ rest))) =
    ap (λ (t : List ℕ). t ++ rest) (sym (layout_words l count start)) ∙ simp append_assoc in
    rw (
      text,
      number_again w8 wide8 0 most.stripes len l.count (word w8 l.start ++ (word w16 0 ++ (word w32 l.generation ++ rest))) (omega arith) is.count_most (omega (arith, count)),
      number_again w8 wide8 0 (cond (eqb l.count 0) 0 15) len l.start (word w16 0 ++ (word w32 l.generation ++ rest)) (omega arith) is.start_most (omega (arith, start)),
      number_again w16 wide16 0 0 len 0 (word w32 l.generation ++ rest) (omega arith) (omega arith) (omega arith),
      number_again w32 wide32 0 most.generation len l.generation rest (omega arith) is.generation_most (omega (arith, is.generation_fits)),
    ) refl

-- ---- bodies

pub record InLimits (most : Limits) (b : Body) : Type 0 where
  pub mode : b.mode ≤ most.mode
  pub uid : b.uid ≤ most.owner
  pub gid : b.gid ≤ most.owner
  pub least_links : most.least_links ≤ b.links
  pub links : b.links ≤ most.links
  pub layout : IsLayoutTo most b.layout
  pub fid : IsFidTo most.seq most.number b.fid
  pub index : b.index ≤ most.index
  pub words : (b.mode < 2 ^ 32) × (b.uid < 2 ^ 32) × (b.gid < 2 ^ 32) × (b.links < 2 ^ 32) × (b.index < 2 ^ 32)

abbrev pub numbers_text : Body → List ℕ
numbers_text b = word w32 b.mode ++ (word w32 b.uid ++ (word w32 b.gid ++ (word w32 b.links ++ (layout_text (laid b.layout) ++ (fid_bytes b.fid ++ word w32 b.index)))))

pub numbers_take : (kind : ObjectKind) (most : Limits) (len : ℕ) (bytes : List ℕ) (b : Body) (rest : List ℕ) → IsBytes bytes → numbers_at kind most len bytes ≡ Ok (b, rest)
    → Takes bytes (numbers_text b) rest × InLimits most b × (b.kind ≡ kind)
unfolding numbers_at
numbers_take kind most len bytes body rest fits e =
    let a = bind_ok {A = ℕ × List ℕ} _ _ _ e in
    let b = bind_ok {A = ℕ × List ℕ} _ _ _ a.2 in
    let c = bind_ok {A = ℕ × List ℕ} _ _ _ b.2 in
    let d = bind_ok {A = ℕ × List ℕ} _ _ _ c.2 in
    let l = bind_ok {A = Layout × List ℕ} _ _ _ d.2 in
    let f = bind_ok {A = Fid × List ℕ} _ _ _ l.2 in
    let i = bind_ok {A = ℕ × List ℕ} _ _ _ f.2 in
    let mode = number_takes w32 wide32 0 most.mode len bytes a.0.0 a.0.1 fits a.1 in
    let uid = number_takes w32 wide32 0 most.owner len a.0.1 b.0.0 b.0.1 mode.0.fits b.1 in
    let gid = number_takes w32 wide32 0 most.owner len b.0.1 c.0.0 c.0.1 uid.0.fits c.1 in
    let links = number_takes w32 wide32 most.least_links most.links len c.0.1 d.0.0 d.0.1 gid.0.fits d.1 in
    let layout = layout_takes most len d.0.1 l.0.0 l.0.1 links.0.fits l.1 in
    let fid = fid_takes most.seq most.number len l.0.1 f.0.0 f.0.1 layout.0.fits f.1 in
    let index = number_takes w32 wide32 0 most.index len f.0.1 i.0.0 i.0.1 fid.0.fits i.1 in
    let made : Body = record { kind = kind; mode = a.0.0; uid = b.0.0; gid = c.0.0; links = d.0.0; layout = l.0.0; fid = f.0.0; index = i.0.0 } in
    let limits : InLimits most made = record {
      mode = (number_is w32 0 most.mode len bytes a.0.0 a.0.1 a.1).at_most;
      uid = (number_is w32 0 most.owner len a.0.1 b.0.0 b.0.1 b.1).at_most;
      gid = (number_is w32 0 most.owner len b.0.1 c.0.0 c.0.1 c.1).at_most;
      least_links = (number_is w32 most.least_links most.links len c.0.1 d.0.0 d.0.1 d.1).at_least;
      links = (number_is w32 most.least_links most.links len c.0.1 d.0.0 d.0.1 d.1).at_most;
      layout = layout.1;
      fid = fid.1;
      index = (number_is w32 0 most.index len f.0.1 i.0.0 i.0.1 i.1).at_most;
      words = (mode.1, uid.1, gid.1, links.1, index.1);
    } in
    subst (λ (p : Body × List ℕ). Takes bytes (numbers_text p.0) p.1 × InLimits most p.0 × (p.0.kind ≡ kind)) (ok_is (made, i.0.1) (body, rest) i.2)
    (Takes-then mode.0 (Takes-then uid.0 (Takes-then gid.0 (Takes-then links.0 (Takes-then layout.0 (Takes-then fid.0 index.0))))), limits, refl)

pub numbers_again : (most : Limits) (len : ℕ) (b : Body) (rest : List ℕ) → most.stripes < 256 → InLimits most b → numbers_at b.kind most len (numbers_text b ++ rest) ≡ Ok (b, rest)
unfolding numbers_at
numbers_again most len b rest byte is =
    let r1 = word w32 b.index ++ rest in
    let r2 = fid_bytes b.fid ++ r1 in
    let r3 = layout_text (laid b.layout) ++ r2 in
    let r4 = word w32 b.links ++ r3 in
    let r5 = word w32 b.gid ++ r4 in
    let r6 = word w32 b.uid ++ r5 in
    let text : numbers_text b ++ rest ≡ word w32 b.mode ++ r6 = simp append_assoc in
    rw (
      text,
      number_again w32 wide32 0 most.mode len b.mode r6 (omega arith) is.mode is.words.0,
      number_again w32 wide32 0 most.owner len b.uid r5 (omega arith) is.uid is.words.1,
      number_again w32 wide32 0 most.owner len b.gid r4 (omega arith) is.gid is.words.2,
      number_again w32 wide32 most.least_links most.links len b.links r3 is.least_links is.links is.words.3,
      layout_again most len b.layout r2 byte is.layout,
      fid_again most.seq most.number len b.fid r1 is.fid,
      number_again w32 wide32 0 most.index len b.index rest (omega arith) is.index is.words.4,
    ) refl

-- ---- what is allowed

allowed_by : (k : ObjectKind) (b : Body) → InLimits (limits_of k) b → may_be k b ≡ true
allowed_by File b i =
    let a = i.mode in
    let c = i.least_links in
    let d = i.links in
    let e = i.layout.count_most in
    let f = i.layout.start_most in
    let g = i.layout.generation_most in
    let h = i.fid.seq_most in
    let j = i.fid.oid_most in
    let k = i.fid.ver_most in
    let l = i.index in
    grind (arith, nat_tests)
allowed_by Directory b i =
    let a = i.mode in
    let c = i.least_links in
    let d = i.links in
    let e = i.layout.count_most in
    let f = i.layout.start_most in
    let g = i.layout.generation_most in
    let l = i.index in
    grind (arith, nat_tests)
allowed_by Stripe b i =
    let a = i.mode in
    let m = i.uid in
    let n = i.gid in
    let d = i.links in
    let e = i.layout.count_most in
    let f = i.layout.start_most in
    let g = i.layout.generation_most in
    let l = i.index in
    grind (arith, nat_tests)

limits_by : (k : ObjectKind) (b : Body) → may_be k b ≡ true → b.uid < 2 ^ 32 → b.gid < 2 ^ 32 → IsFid b.fid → InLimits (limits_of k) b
limits_by File b h u g f =
    let a = f.0 in
    let o = f.1 in
    let v = f.2 in
    record {
      mode = grind (arith, nat_tests);
      uid = grind (arith, nat_tests);
      gid = grind (arith, nat_tests);
      least_links = grind (arith, nat_tests);
      links = grind (arith, nat_tests);
      layout = record { count_most = grind (arith, nat_tests); start_most = grind (arith, nat_tests); generation_most = grind (arith, nat_tests); generation_fits = grind (arith, nat_tests) };
      fid = record { is_fid = f; seq_most = grind (arith, nat_tests); oid_most = grind (arith, nat_tests); ver_most = grind (arith, nat_tests) };
      index = grind (arith, nat_tests);
      words = (grind (arith, nat_tests), u, g, grind (arith, nat_tests), grind (arith, nat_tests));
    }
limits_by Directory b h u g f =
    let a = f.0 in
    let o = f.1 in
    let v = f.2 in
    record {
      mode = grind (arith, nat_tests);
      uid = grind (arith, nat_tests);
      gid = grind (arith, nat_tests);
      least_links = grind (arith, nat_tests);
      links = grind (arith, nat_tests);
      layout = record { count_most = grind (arith, nat_tests); start_most = grind (arith, nat_tests); generation_most = grind (arith, nat_tests); generation_fits = grind (arith, nat_tests) };
      fid = record { is_fid = f; seq_most = grind (arith, nat_tests); oid_most = grind (arith, nat_tests); ver_most = grind (arith, nat_tests) };
      index = grind (arith, nat_tests);
      words = (grind (arith, nat_tests), u, g, grind (arith, nat_tests), grind (arith, nat_tests));
    }
limits_by Stripe b h u g f =
    let a = f.0 in
    let o = f.1 in
    let v = f.2 in
    record {
      mode = grind (arith, nat_tests);
      uid = grind (arith, nat_tests);
      gid = grind (arith, nat_tests);
      least_links = grind (arith, nat_tests);
      links = grind (arith, nat_tests);
      layout = record { count_most = grind (arith, nat_tests); start_most = grind (arith, nat_tests); generation_most = grind (arith, nat_tests); generation_fits = grind (arith, nat_tests) };
      fid = record { is_fid = f; seq_most = grind (arith, nat_tests); oid_most = grind (arith, nat_tests); ver_most = grind (arith, nat_tests) };
      index = grind (arith, nat_tests);
      words = (grind (arith, nat_tests), u, g, grind (arith, nat_tests), grind (arith, nat_tests));
    }

pub body_takes : (len : ℕ) (bytes : List ℕ) (b : Body) (rest : List ℕ) → IsBytes bytes → body_at len bytes ≡ Ok (b, rest)
    → Takes bytes (body_bytes b) rest × (is_allowed b ≡ true) × (b.uid < 2 ^ 32) × (b.gid < 2 ^ 32) × IsFid b.fid
unfolding body_at body_bytes is_allowed
body_takes len bytes b rest fits e =
    let a = bind_ok (number_at w32 1 3 len bytes) _ _ e in
    let kind = number_takes w32 wide32 1 3 len bytes a.0.0 a.0.1 fits a.1 in
    let n = numbers_take (kind_of a.0.0) (limits_of (kind_of a.0.0)) len a.0.1 b rest kind.0.fits a.2 in
    let range = number_is w32 1 3 len bytes a.0.0 a.0.1 a.1 in
    let is : number_of b.kind ≡ a.0.0 = ap number_of n.2 ∙ number_there a.0.0 range.at_least range.at_most in
    let first : Takes bytes (word w32 (number_of b.kind)) a.0.1 = subst (λ (k : ℕ). Takes bytes (word w32 k) a.0.1) (sym is) kind.0 in
    let limits : InLimits (limits_of b.kind) b = subst (λ (k : ObjectKind). InLimits (limits_of k) b) (sym n.2) n.1 in
    (Takes-then first n.0, allowed_by b.kind b limits, n.1.words.1, n.1.words.2, n.1.fid.is_fid)
  where
    number_there : (n : ℕ) → 1 ≤ n → n ≤ 3 → number_of (kind_of n) ≡ n
    number_there n l h = grind (arith, nat_tests)

-- what is read may stand
pub body_allowed : (len : ℕ) (bytes : List ℕ) (b : Body) (rest : List ℕ) → IsBytes bytes → body_at len bytes ≡ Ok (b, rest) → is_allowed b ≡ true
body_allowed len bytes b rest fits e = (body_takes len bytes b rest fits e).1

stripes_below : (k : ObjectKind) → (limits_of k).stripes < 256
stripes_below File = omega arith
stripes_below Directory = omega arith
stripes_below Stripe = omega arith

number_least : (k : ObjectKind) → 1 ≤ number_of k
number_least File = omega arith
number_least Directory = omega arith
number_least Stripe = omega arith

number_most : (k : ObjectKind) → number_of k ≤ 3
number_most File = omega arith
number_most Directory = omega arith
number_most Stripe = omega arith

pub body_again : (len : ℕ) (b : Body) (rest : List ℕ) → is_allowed b ≡ true → b.uid < 2 ^ 32 → b.gid < 2 ^ 32 → IsFid b.fid → body_at len (body_bytes b ++ rest) ≡ Ok (b, rest)
unfolding body_at body_bytes is_allowed
body_again len b rest h u g f =
    let most = number_most b.kind in
    let limits = limits_by b.kind b h u g f in
    rw (
      append_assoc (word w32 (number_of b.kind)) (numbers_text b) rest,
      number_again w32 wide32 1 3 len (number_of b.kind) (numbers_text b ++ rest) (number_least b.kind) most (omega (arith, most)),
      kind_again b.kind,
    ) (numbers_again (limits_of b.kind) len b rest (stripes_below b.kind) limits)
