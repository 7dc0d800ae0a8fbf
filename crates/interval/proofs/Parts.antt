-- Lakeyev's formula, and the laws of its one expression.
use Rattle.std.proofs.Common.{◌≡◌, ℕ, ℤ, pos, ◌-ℤ◌, ◌*ℤ◌, neg_ℤ, ◌≤ℤ◌, ◌<ℤ◌, refl, ap, ◌∙◌, ap₂, arith}
use lib.IntN.{*ℤ-zero, zero-*ℤ, *ℤ_comm, neg_ℤ-neg_ℤ}
use Rattle.std.specs.Int.{int_max}
use Rattle.std.proofs.lemmas.Int.{by_lt_z}
use Rattle.interval.specs.declared.directed.Interval.{Interval}
use Rattle.interval.specs.declared.classes.Class.{Class}
use Rattle.interval.specs.declared.classes.Class.TheVariants.{NonNegative as P, NonPositive as N, SpreadThroughZero as Z, TrimThroughZero as D}
use Rattle.interval.specs.Directed.{◌to◌, dual, LiesIn}
use Rattle.interval.specs.Classes.{class_of, Signs}
use Rattle.interval.specs.Arithmetic.{by_class, opposite, product}
use Rattle.interval.specs.Laws.{plus, minus, first_by_parts}
use Rattle.interval.proofs.Whole.{lin, mono_r, pos_pos, times_assoc, times_neg, neg_times, add_times}
use Rattle.interval.proofs.Signs.{view_ends}

-- the four products of the parts of x and y
record Parts (x y pp mm pm mp : ℤ) : Type 0 where
  pp_is : plus x *ℤ plus y ≡ pp
  mm_is : minus x *ℤ minus y ≡ mm
  pm_is : plus x *ℤ minus y ≡ pm
  mp_is : minus x *ℤ plus y ≡ mp
  pp_pos : pos 0 ≤ℤ (plus x *ℤ plus y)
  mm_pos : pos 0 ≤ℤ (minus x *ℤ minus y)
  pm_pos : pos 0 ≤ℤ (plus x *ℤ minus y)
  mp_pos : pos 0 ≤ℤ (minus x *ℤ plus y)

plus_pos : (x : ℤ) → pos 0 ≤ℤ plus x
plus_pos x = omega (arith, lin)

minus_pos : (x : ℤ) → pos 0 ≤ℤ minus x
minus_pos x = omega (arith, lin)

-- where the parts of x are p and m, and those of y are q and n
by_values : (x y : ℤ) {p m q n pp mm pm mp : ℤ} → (plus x ≡ p) × (minus x ≡ m) → (plus y ≡ q) × (minus y ≡ n) → p *ℤ q ≡ pp → m *ℤ n ≡ mm → p *ℤ n ≡ pm → m *ℤ q ≡ mp → Parts x y pp mm pm mp
by_values x y u v e f g h =
    record {
      pp_is = ap₂ ◌*ℤ◌ u.0 v.0 ∙ e;
      mm_is = ap₂ ◌*ℤ◌ u.1 v.1 ∙ f;
      pm_is = ap₂ ◌*ℤ◌ u.0 v.1 ∙ g;
      mp_is = ap₂ ◌*ℤ◌ u.1 v.0 ∙ h;
      pp_pos = pos_pos _ _ (plus_pos x) (plus_pos y);
      mm_pos = pos_pos _ _ (minus_pos x) (minus_pos y);
      pm_pos = pos_pos _ _ (plus_pos x) (minus_pos y);
      mp_pos = pos_pos _ _ (minus_pos x) (plus_pos y);
    }

plus_up : (x : ℤ) → pos 0 ≤ℤ x → (plus x ≡ x) × (minus x ≡ pos 0)
plus_up x h = (omega (arith, lin), omega (arith, lin))

plus_down : (x : ℤ) → x ≤ℤ pos 0 → (plus x ≡ pos 0) × (minus x ≡ neg_ℤ x)
plus_down x h = (omega (arith, lin), omega (arith, lin))

data Sign (x : ℤ) : Type 0 where
  up : pos 0 ≤ℤ x → Sign x
  down : x ≤ℤ pos 0 → Sign x

-- one of the four products is that of the numbers, up to its sign, and the others are 0
abbrev BySign : (x y : ℤ) → Sign x → Sign y → Type 0
BySign x y (up h) (up k) = Parts x y (x *ℤ y) (pos 0) (pos 0) (pos 0)
BySign x y (up h) (down k) = Parts x y (pos 0) (pos 0) (neg_ℤ (x *ℤ y)) (pos 0)
BySign x y (down h) (up k) = Parts x y (pos 0) (pos 0) (pos 0) (neg_ℤ (x *ℤ y))
BySign x y (down h) (down k) = Parts x y (pos 0) (x *ℤ y) (pos 0) (pos 0)

by_sign : (x y : ℤ) (s : Sign x) (t : Sign y) → BySign x y s t
by_sign x y (up h) (up k) = by_values x y (plus_up x h) (plus_up y k) refl refl (*ℤ-zero x) (zero-*ℤ y)
by_sign x y (up h) (down k) = by_values x y (plus_up x h) (plus_down y k) (*ℤ-zero x) (zero-*ℤ (neg_ℤ y)) (times_neg x y) refl
by_sign x y (down h) (up k) = by_values x y (plus_down x h) (plus_up y k) (zero-*ℤ y) (*ℤ-zero (neg_ℤ x)) refl (neg_times x y)
by_sign x y (down h) (down k) = by_values x y (plus_down x h) (plus_down y k) refl (omega (arith, lin, times_neg (neg_ℤ x) y, neg_times x y)) (zero-*ℤ (neg_ℤ y)) (*ℤ-zero (neg_ℤ x))

pub weak : {a b : ℤ} → a <ℤ b → a ≤ℤ b
weak h = omega (arith, lin)

module _ (a b c d : ℤ) where
  -- the four pairs of ends
  record Four (p : Sign a) (q : Sign b) (r : Sign c) (s : Sign d) : Type 0 where
    ac : BySign a c p r
    ad : BySign a d p s
    bc : BySign b c q r
    bd : BySign b d q s

  four : (p : Sign a) (q : Sign b) (r : Sign c) (s : Sign d) → Four p q r s
  four p q r s = record { ac = by_sign a c p r; ad = by_sign a d p s; bc = by_sign b c q r; bd = by_sign b d q s }

  by_class_by_parts : (k l : Class) → Signs k (a to b) → Signs l (c to d) → by_class k l a b c d ≡ (first_by_parts (a to b) (c to d) to first_by_parts (b to a) (d to c))
  by_class_by_parts P P (p, q) (r, s) = let f = four (up p) (up q) (up r) (up s) in grind (arith, lin)
  by_class_by_parts P Z (p, q) (r, s) = let f = four (up p) (up q) (down (weak r)) (up (weak s)) in grind (arith, lin)
  by_class_by_parts P N (p, q) (r, s) = let f = four (up p) (up q) (down r) (down s) in grind (arith, lin)
  by_class_by_parts P D (p, q) (r, s) = let f = four (up p) (up q) (up (weak r)) (down (weak s)) in grind (arith, lin)
  by_class_by_parts Z P (p, q) (r, s) = let f = four (down (weak p)) (up (weak q)) (up r) (up s) in grind (arith, lin)
  by_class_by_parts Z Z (p, q) (r, s) = let f = four (down (weak p)) (up (weak q)) (down (weak r)) (up (weak s)) in grind (arith, lin)
  by_class_by_parts Z N (p, q) (r, s) = let f = four (down (weak p)) (up (weak q)) (down r) (down s) in grind (arith, lin)
  by_class_by_parts Z D (p, q) (r, s) = let f = four (down (weak p)) (up (weak q)) (up (weak r)) (down (weak s)) in grind (arith, lin)
  by_class_by_parts N P (p, q) (r, s) = let f = four (down p) (down q) (up r) (up s) in grind (arith, lin)
  by_class_by_parts N Z (p, q) (r, s) = let f = four (down p) (down q) (down (weak r)) (up (weak s)) in grind (arith, lin)
  by_class_by_parts N N (p, q) (r, s) = let f = four (down p) (down q) (down r) (down s) in grind (arith, lin)
  by_class_by_parts N D (p, q) (r, s) = let f = four (down p) (down q) (up (weak r)) (down (weak s)) in grind (arith, lin)
  by_class_by_parts D P (p, q) (r, s) = let f = four (up (weak p)) (down (weak q)) (up r) (up s) in grind (arith, lin)
  by_class_by_parts D Z (p, q) (r, s) = let f = four (up (weak p)) (down (weak q)) (down (weak r)) (up (weak s)) in grind (arith, lin)
  by_class_by_parts D N (p, q) (r, s) = let f = four (up (weak p)) (down (weak q)) (down r) (down s) in grind (arith, lin)
  by_class_by_parts D D (p, q) (r, s) = let f = four (up (weak p)) (down (weak q)) (up (weak r)) (down (weak s)) in grind (arith, lin)

pub by_parts : (x y : Interval) → product x y ≡ (first_by_parts x y to first_by_parts (dual x) (dual y))
by_parts x y = by_class_by_parts x.first x.second y.first y.second (class_of x) (class_of y) (view_ends x.first x.second) (view_ends y.first y.second)

-- ---- the laws of the one expression; the second end of a product is that of the duals

pub first_commutes : (x y : Interval) → first_by_parts x y ≡ first_by_parts y x
first_commutes x y =
    omega (
      arith,
      lin,
      *ℤ_comm (plus x.first) (plus y.first),
      *ℤ_comm (minus x.second) (minus y.second),
      *ℤ_comm (plus x.second) (minus y.first),
      *ℤ_comm (minus x.first) (plus y.second),
    )

-- the parts of -z are those of z, exchanged
pub first_opposite : (x y : Interval) → first_by_parts (opposite x) y ≡ neg_ℤ (first_by_parts (dual x) (dual y))
first_opposite x y = simp neg_ℤ-neg_ℤ (omega (arith, lin))

pub first_order : (x y z : Interval) → LiesIn x y → first_by_parts y z ≤ℤ first_by_parts x z
first_order x y z h =
    omega (
      arith,
      lin,
      mono_r (plus y.first) (plus x.first) (plus z.first) (plus_pos z.first) (omega (arith, lin)),
      mono_r (minus y.second) (minus x.second) (minus z.second) (minus_pos z.second) (omega (arith, lin)),
      mono_r (plus x.second) (plus y.second) (minus z.first) (minus_pos z.first) (omega (arith, lin)),
      mono_r (minus x.first) (minus y.first) (plus z.second) (plus_pos z.second) (omega (arith, lin)),
    )

-- a factor e ≥ 0 goes through the greater of two, the parts, and so the expression
max_times : (u v : ℤ) (e : ℕ) → int_max (u *ℤ pos e) (v *ℤ pos e) ≡ int_max u v *ℤ pos e
max_times u v e =
    by_lt_z v u
    (λ h. omega (arith, lin, mono_r v u (pos e) (omega (arith, lin)) (weak h), ap (λ z. z *ℤ pos e) (max_left h)))
    (λ h. omega (arith, lin, mono_r u v (pos e) (omega (arith, lin)) h, ap (λ z. z *ℤ pos e) (max_right h)))
  where
    max_left : v <ℤ u → int_max u v ≡ u
    max_left h = omega (arith, lin)

    max_right : u ≤ℤ v → int_max u v ≡ v
    max_right h = omega (arith, lin)

plus_times : (z : ℤ) (e : ℕ) → plus (z *ℤ pos e) ≡ plus z *ℤ pos e
plus_times z e = simp zero-*ℤ at (max_times z (pos 0) e)

minus_times : (z : ℤ) (e : ℕ) → minus (z *ℤ pos e) ≡ minus z *ℤ pos e
minus_times z e = simp neg_times at (plus_times (neg_ℤ z) e)

sub_times : (m n c : ℤ) → (m -ℤ n) *ℤ c ≡ m *ℤ c -ℤ n *ℤ c
sub_times m n c = omega (arith, lin, add_times m (neg_ℤ n) c, neg_times n c)

pub first_times : (x y : Interval) (e : ℕ) → first_by_parts x (y.first *ℤ pos e to y.second *ℤ pos e) ≡ first_by_parts x y *ℤ pos e
first_times x y e = simp (plus_times, minus_times, ← times_assoc, max_times, ← sub_times)
