-- Fields that a function puts into a lent list one after another, each into its own stretch behind the last.
use mathlib.Core.Path.{◌≡◌, ap, ◌∙◌}
use mathlib.Core.List.{List, ◌++◌, append_assoc}
use Prim.Native.Nat.{ℕ, ◌+◌, ◌-◌}
use lib.ListN.{length, length-append}
use borrow.Rule.Slice.PartMut.{mid_of, put_mid}
use Rattle.chart_lists.specs.Lists.{put}
use Rattle.chart_lists.proofs.Part.{put_part}

-- the fields xs stand over the front of l, which has become out
pub record Fields (xs l out : List ℕ) : Type 0 where
  pub is : out ≡ put xs l

pub fields_first : {xs l out : List ℕ} → out ≡ put xs l → Fields xs l out
fields_first e = record { is = e }

pub fields_next : {xs l out last : List ℕ} → Fields xs l out → (a : ℕ) (ys : List ℕ) → a ≡ length xs → last ≡ put ys (mid_of a (length out - a) out)
    → Fields (xs ++ ys) l (put_mid a (length out - a) out last)
fields_next {xs} {l} {out} {last} h a ys e f = record { is = put_part xs ys l out last a e h.is f }

pub fields_done : {xs l out : List ℕ} (zs : List ℕ) → Fields xs l out → xs ≡ zs → out ≡ put zs l
fields_done {xs} {l} zs h e = h.is ∙ ap (λ (ys : List ℕ). put ys l) e

-- three fields, the second from a on and the third from b on
pub fields_three : {out last last' : List ℕ} (l xs ys zs : List ℕ) (a b : ℕ) → a ≡ length xs → b ≡ length xs + length ys
    → out ≡ put xs l → last ≡ put ys (mid_of a (length out - a) out) → let mid = put_mid a (length out - a) out last in
    last' ≡ put zs (mid_of b (length mid - b) mid) → put_mid b (length mid - b) mid last' ≡ put (xs ++ (ys ++ zs)) l
fields_three l xs ys zs a b ea eb e f g =
    let two = fields_next (fields_first e) a ys ea f in
    fields_done _ (fields_next two b zs (eb ∙ rw (length-append xs ys)) g) (append_assoc xs ys zs)
