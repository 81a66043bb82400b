-- The updates of stripes have a spelling.
use Rattle.std.proofs.Common.{◌≡◌, ◌<◌, ◌≤◌, ◌*◌, ◌^◌, ◌==◌, nat_le, ℕ, true, List, [], ◌∷◌, ◌++◌, length, refl, arith}
use Rattle.std.specs.Int.{byte_len}
use Rattle.std.proofs.lemmas.Bool.Decides.{nat_tests}
use Rattle.byte_grammar.specs.Numbers.{word, zeros}
use Rattle.fid_space.specs.declared.fid.Fid.{Fid}
use Rattle.fid_space.specs.FidText.{IsFid}
use Rattle.fid_space.specs.Places.{stripe_of}
use Rattle.out_update.specs.declared.shape.BodyField.{BodyField}
use Rattle.out_update.specs.declared.shape.BodyField.TheVariants as body
use Rattle.out_update.specs.declared.shape.Shape.TheVariants as shape
use Rattle.out_update.specs.Bodies.{width_of, may_be, kind_after, count_after, AreNumbers, IsBody}
use Rattle.out_update.specs.Spelling.{FitsParams}
use Rattle.tree_model.specs.Keys.{Layout}
use Rattle.tree_model.specs.Striped.{stripe_target}
use Rattle.striped_dir.specs.Parts.{FitsDirectory, stripe_body}
use Rattle.striped_dir.specs.PartLaws.{StripesAreSpelled}

field : (k c : ℕ) (f : BodyField) (fs : List BodyField) (n : ℕ) (rest : List ℕ) → n < 2 ^ (8 * byte_len (width_of f)) → may_be k c f n ≡ true → AreNumbers (kind_after k f n) (count_after c f n) fs rest
    → AreNumbers k c (f ∷ fs) (word (width_of f) n ++ rest)
unfolding AreNumbers
field k c f fs n rest a b h = (n, rest, a, b, refl, h)

no_field : (k c : ℕ) → AreNumbers k c [] []
unfolding AreNumbers
no_field k c = refl

small_index : (index : ℕ) → index < 16 → nat_le index 15 ≡ true
small_index index h = grind (arith, nat_tests)

is_body : (d : Fid) (index : ℕ) → IsFid d → index < 16 → IsBody (stripe_body d index)
unfolding stripe_body word zeros
is_body d index is small =
    field 0 0 body.Kind _ 3 _ (omega arith) refl
    (field 3 0 body.Mode _ 0 _ (omega arith) refl
    (field 3 0 body.Uid _ 0 _ (omega arith) refl
    (field 3 0 body.Gid _ 0 _ (omega arith) refl
    (field 3 0 body.Links _ 0 _ (omega arith) refl
    (field 3 0 body.Count _ 0 _ (omega arith) refl
    (field 3 0 body.Start _ 0 _ (omega arith) refl
    (field 3 0 body.Zero _ 0 _ (omega arith) refl
    (field 3 0 body.Generation _ 0 _ (omega arith) refl
    (field 3 0 body.Seq _ d.seq _ (is.0) refl
    (field 3 0 body.Oid _ d.oid _ (is.1) refl
    (field 3 0 body.Ver _ d.ver _ (is.2) refl
    (field 3 0 body.Index [] index [] (omega (arith, small)) (small_index index small) (no_field 3 0)))))))))))))

body_len : (d : Fid) (index : ℕ) → (length (stripe_body d index) == 48) ≡ true
unfolding stripe_body word zeros
body_len d index = refl

fits_body : (d : Fid) (index : ℕ) → IsFid d → index < 16 → FitsParams (shape.Body ∷ []) (stripe_body d index ∷ [])
unfolding FitsParams
fits_body d index is small = (record { length_allowed = body_len d index; content = is_body d index is small }, tt)

fits_none : FitsParams [] []
unfolding FitsParams
fits_none = tt

writes : (batch : ℕ) → 1 ≤ batch → nat_le 1 batch ≡ true
writes batch h = grind (arith, nat_tests)

stripe_fits : (d : Fid) (t i g : ℕ) → IsFid d → d.seq < 0x201000400 → t < 16 → i < 16 → g ≤ 0x0ffffffe → IsFid (stripe_of d t i g)
stripe_fits d t i g is high few small low = (omega (arith, high, few), is.1, omega (arith, small, low))

record Known (targets : ℕ) (d : Fid) (l : Layout) (i : ℕ) : Type 0 where
  high : d.seq < 0x201000400
  target : stripe_target targets l i < 16
  index : i < 16

known : (targets : ℕ) (d : Fid) (l : Layout) (i : ℕ) → 1 ≤ targets → targets ≤ 16 → FitsDirectory targets d l → i < l.count → Known targets d l i
known targets d l i some few fits within =
    let named = fits.named (λ (e : l.count ≡ 0). omega (arith, e, within)) in
    let most = fits.layout.count in
    record {
      high = grind (arith, nat_tests, named);
      target = omega (arith, some, few);
      index = omega (arith, within, most);
    }

pub spelled : StripesAreSpelled
spelled targets d l batch i some few is fits one wide within =
    let k = known targets d l i some few fits within in
    let fid = stripe_fits d (stripe_target targets l i) i l.generation is k.high k.target k.index fits.layout.generation in (
      record { stands = refl; batch = wide; batch_set = writes batch one; fid = fid; params = fits_body d i is k.index },
      record { stands = refl; batch = wide; batch_set = writes batch one; fid = fid; params = fits_none },
    )
