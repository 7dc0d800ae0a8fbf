-- The laws of Kaucher's arithmetic.
use Rattle.std.proofs.Common.{◌≡◌, ℕ, ℤ, pos, ◌*ℤ◌, neg_ℤ, ◌≤ℤ◌, ◌<ℤ◌, sym, refl, ap, ◌∙◌, ap₂, inl, inr, arith}
use lib.IntN.{*ℤ-zero, zero-*ℤ, *ℤ_comm, +ℤ_comm}
use lib.Signed.{lt_z, ≤ℤ_refl}
use Rattle.std.specs.Int.{int_min}
use Rattle.std.proofs.lemmas.Int.{by_lt_z, ints}
use Rattle.std.proofs.lemmas.Bool.{cond_both}
use Rattle.interval.specs.declared.directed.Interval.{Interval}
use Rattle.interval.specs.declared.classes.Class.{Class}
use Rattle.interval.specs.declared.classes.Class.TheVariants.{NonNegative as P, NonPositive as N, SpreadThroughZero as Z, TrimThroughZero as D}
use Rattle.interval.specs.Directed.{◌to◌, dual, LiesIn}
use Rattle.interval.specs.Classes.{class_of, Signs}
use Rattle.interval.specs.Arithmetic.{by_class, opposite, multiple, product}
use Rattle.interval.specs.Laws.{Proper, four_products, SumLaws, ProductLaws, Corner, MultipleLaws}
use Rattle.interval.specs.Examples.{Examples}
use Rattle.interval.proofs.Whole.{lin, mono_r, anti_r, neg_times, neg_pos, pos_neg}
use Rattle.interval.proofs.Signs.{view_ends}
use Rattle.interval.proofs.Parts.{weak, by_parts, first_commutes, first_opposite, first_order, first_times}

pub examples : Examples
examples = (refl, refl, refl, refl)

pub sum_laws : SumLaws
sum_laws = record { commutes = λ x y. ap₂ ◌to◌ (+ℤ_comm x.first y.first) (+ℤ_comm x.second y.second); of_duals = λ x y. refl }

-- ---- the product, by its parts

commutes : (x y : Interval) → product x y ≡ product y x
commutes x y = by_parts x y ∙ ap₂ ◌to◌ (first_commutes x y) (first_commutes (dual x) (dual y)) ∙ sym (by_parts y x)

of_duals : (x y : Interval) → dual (product x y) ≡ product (dual x) (dual y)
of_duals x y = ap dual (by_parts x y) ∙ sym (by_parts (dual x) (dual y))

of_opposite : (x y : Interval) → product (opposite x) y ≡ opposite (product x y)
of_opposite x y = by_parts (opposite x) y ∙ ap₂ ◌to◌ (first_opposite x y) (first_opposite (dual x) (dual y)) ∙ sym (ap opposite (by_parts x y))

left_order : (x y z : Interval) → LiesIn x y → LiesIn (product x z) (product y z)
left_order x y z h = rw (by_parts x z, by_parts y z) (first_order x y z h, first_order (dual y) (dual x) (dual z) (h.1, h.0))

right_order : (x y z : Interval) → LiesIn y z → LiesIn (product x y) (product x z)
right_order x y z h = rw (commutes x y, commutes x z) (left_order y z x h)

-- ---- multiples

multiple_up : (t : ℤ) (c : Interval) → pos 0 ≤ℤ t → multiple t c ≡ (c.first *ℤ t to c.second *ℤ t)
multiple_up t c h = grind (arith, ints)

multiple_down : (t : ℤ) (c : Interval) → t <ℤ pos 0 → multiple t c ≡ (c.second *ℤ t to c.first *ℤ t)
multiple_down t c h = grind (arith, ints)

class_up : (t : ℤ) → pos 0 ≤ℤ t → class_of (t to t) ≡ P
class_up t h = grind (arith, ints)

class_down : (t : ℤ) → t <ℤ pos 0 → class_of (t to t) ≡ N
class_down t h = grind (arith, ints)

is_product : (t : ℤ) (c : Interval) → multiple t c ≡ product (t to t) c
is_product t c = grind (arith, ints, *ℤ_comm)

bounded : (c : Interval) (lo hi n : ℤ) → lo ≤ℤ n → n ≤ℤ hi → LiesIn (multiple n c) (product c (lo to hi))
bounded c lo hi n h k = rw (is_product n c, commutes (n to n) c) (right_order c (n to n) (lo to hi) (h, k))

-- a factor e ≥ 0 goes through the product
product_times : (x y : Interval) (e : ℕ) → product x (y.first *ℤ pos e to y.second *ℤ pos e) ≡ multiple (pos e) (product x y)
product_times x y e =
    rw (by_parts x y, by_parts x (y.first *ℤ pos e to y.second *ℤ pos e)) (ap₂ ◌to◌ (first_times x y e) (first_times (dual x) (dual y) e) ∙ sym (multiple_up (pos e) _ (omega (arith, lin))))

bounded_over : (c : Interval) (lo hi n : ℤ) (e : ℕ) → (lo *ℤ pos e) ≤ℤ n → n ≤ℤ (hi *ℤ pos e) → LiesIn (multiple n c) (multiple (pos e) (product c (lo to hi)))
bounded_over c lo hi n e h k = rw (← product_times c (lo to hi) e) (bounded c (lo *ℤ pos e) (hi *ℤ pos e) n h k)

-- ---- where the ends are reached

module _ (c : Interval) (lo hi : ℤ) (o : lo ≤ℤ hi) where
  -- m is the first end of a multiple at a corner
  abbrev Reached : ℤ → Type 0
  Reached m = (n : ℤ) × Corner lo hi n × ((multiple n c).first ≡ m)

  first_up : (t : ℤ) → pos 0 ≤ℤ t → (multiple t c).first ≡ c.first *ℤ t
  first_up t h = ap (λ x. x.first) (multiple_up t c h)

  first_down : (t : ℤ) → t ≤ℤ pos 0 → (multiple t c).first ≡ c.second *ℤ t
  first_down t h =
      by_lt_z t (pos 0)
      (λ l. ap (λ x. x.first) (multiple_down t c l))
      (λ l. let z : t ≡ pos 0 = omega (arith, lin) in simp (z, *ℤ-zero))

  low_up : pos 0 ≤ℤ lo → Reached (c.first *ℤ lo)
  low_up h = (lo, (≤ℤ_refl lo, o, inl refl), first_up lo h)

  low_down : lo ≤ℤ pos 0 → Reached (c.second *ℤ lo)
  low_down h = (lo, (≤ℤ_refl lo, o, inl refl), first_down lo h)

  high_up : pos 0 ≤ℤ hi → Reached (c.first *ℤ hi)
  high_up h = (hi, (o, ≤ℤ_refl hi, inr (inr refl)), first_up hi h)

  high_down : hi ≤ℤ pos 0 → Reached (c.second *ℤ hi)
  high_down h = (hi, (o, ≤ℤ_refl hi, inr (inr refl)), first_down hi h)

  least_of : {s t : ℤ} → Reached s → Reached t → Reached (int_min s t)
  least_of {s} {t} p q = cond_both (lt_z t s) t s Reached (λ _. q) (λ _. p)

  reached_by : (k l : Class) → Signs l (lo to hi) → Reached (by_class k l c.first c.second lo hi).first
  reached_by P P (r, s) = low_up r
  reached_by P Z (r, s) = low_down (weak r)
  reached_by P N (r, s) = low_down r
  reached_by Z P (r, s) = high_up s
  reached_by Z Z (r, s) = least_of (high_up (weak s)) (low_down (weak r))
  reached_by Z N (r, s) = low_down r
  reached_by N P (r, s) = high_up s
  reached_by N Z (r, s) = high_up (weak s)
  reached_by N N (r, s) = high_down s
  reached_by D P (r, s) = low_up r
  reached_by D Z (r, s) = (pos 0, (weak r, weak s, inr (inl refl)), *ℤ-zero c.first)
  reached_by D N (r, s) = high_down s
  reached_by k D (r, s) = absurd (omega (arith, lin))

first_reached : (c : Interval) (lo hi : ℤ) → lo ≤ℤ hi → (n : ℤ) × Corner lo hi n × ((multiple n c).first ≡ (product c (lo to hi)).first)
first_reached c lo hi o = reached_by c lo hi o (class_of c) (class_of (lo to hi)) (view_ends lo hi)

-- ---- the second ends are the first ends of the opposites

multiple_opposite : (t : ℤ) (c : Interval) → multiple t (opposite c) ≡ opposite (multiple t c)
multiple_opposite t c = grind (arith, ints, neg_times)

second_reached : (c : Interval) (lo hi : ℤ) → lo ≤ℤ hi → (n : ℤ) × Corner lo hi n × ((multiple n c).second ≡ (product c (lo to hi)).second)
second_reached c lo hi o =
    let r = first_reached (opposite c) lo hi o in
    let e = ap (λ x. x.first) (multiple_opposite r.0 c) in
    let f = ap (λ x. x.first) (of_opposite c (lo to hi)) in
    (r.0, r.1, omega (arith, lin, r.2, e, f))

pub multiple_laws : MultipleLaws
multiple_laws =
    record {
      is_product = is_product;
      bounded = bounded;
      bounded_over = bounded_over;
      first_reached = first_reached;
      second_reached = second_reached;
    }

-- ---- spread or fixed intervals

-- a multiple of one begins with the lesser of the products of its ends
proper_multiple : (x : Interval) (t : ℤ) → Proper x → (multiple t x).first ≡ int_min (x.first *ℤ t) (x.second *ℤ t)
proper_multiple x t h = grind (arith, lin, anti_r x.first x.second t, mono_r x.first x.second t)

module _ (a b c d : ℤ) (h : a ≤ℤ b) (k : c ≤ℤ d) where
  abbrev first : ℤ
  first = (product (a to b) (c to d)).first

  below_c : first ≤ℤ int_min (a *ℤ c) (b *ℤ c)
  below_c = omega (arith, lin, (bounded (a to b) c d c (≤ℤ_refl c) k).0, proper_multiple (a to b) c h)

  below_d : first ≤ℤ int_min (a *ℤ d) (b *ℤ d)
  below_d = omega (arith, lin, (bounded (a to b) c d d k (≤ℤ_refl d)).0, proper_multiple (a to b) d h)

  -- a c and a d lie on both sides of 0 where c and d do
  crosses : c ≤ℤ pos 0 → pos 0 ≤ℤ d → int_min (a *ℤ c) (a *ℤ d) ≤ℤ pos 0
  crosses p q = by_lt_z a (pos 0) (λ l. omega (arith, lin, neg_pos a d (weak l) q)) (λ l. omega (arith, lin, pos_neg a c l p))

  at_corner : (n : ℤ) → Corner c d n → (multiple n (a to b)).first ≡ first → first ≡ (four_products (a to b) (c to d)).first
  at_corner n (p, q, inl e) f = omega (arith, lin, below_c, below_d, f, ap (λ t. (multiple t (a to b)).first) e, proper_multiple (a to b) c h)
  at_corner n (p, q, inr (inl e)) f = omega (arith, lin, below_c, below_d, f, ap (λ t. (multiple t (a to b)).first) e, *ℤ-zero a, crosses (omega (arith, lin)) (omega (arith, lin)))
  at_corner n (p, q, inr (inr e)) f = omega (arith, lin, below_c, below_d, f, ap (λ t. (multiple t (a to b)).first) e, proper_multiple (a to b) d h)

  first_of_proper : first ≡ (four_products (a to b) (c to d)).first
  first_of_proper = let r = first_reached (a to b) c d k in at_corner r.0 r.1 r.2

of_proper : (x y : Interval) → Proper x → Proper y → product x y ≡ four_products x y
of_proper x y h k =
    let a = x.first in
    let b = x.second in
    let c = y.first in
    let d = y.second in
    let of_opposites = first_of_proper (neg_ℤ b) (neg_ℤ a) c d (omega (arith, lin)) k in
    ap₂ ◌to◌ (first_of_proper a b c d h k) (omega (arith, lin, of_opposites, ap (λ z. z.first) (of_opposite x y), neg_times a c, neg_times a d, neg_times b c, neg_times b d))

-- ---- (0, 0)

left_zero : (a b : ℤ) → (pos 0 *ℤ a to pos 0 *ℤ b) ≡ (pos 0 *ℤ b to pos 0 *ℤ a)
left_zero a b = simp zero-*ℤ

right_zero : (a b : ℤ) → (a *ℤ pos 0 to b *ℤ pos 0) ≡ (b *ℤ pos 0 to a *ℤ pos 0)
right_zero a b = simp *ℤ-zero

zero_by_either : (k : Class) (a b : ℤ) → (by_class P k (pos 0) (pos 0) a b ≡ by_class N k (pos 0) (pos 0) a b) × (by_class k P a b (pos 0) (pos 0) ≡ by_class k N a b (pos 0) (pos 0))
zero_by_either k a b = grind (arith, zero-*ℤ, *ℤ-zero)

pub product_laws : ProductLaws
product_laws =
    record {
      commutes = commutes;
      of_duals = of_duals;
      of_opposite = of_opposite;
      left_order = left_order;
      right_order = right_order;
      of_proper = of_proper;
      zero_by_either = zero_by_either;
      by_parts = by_parts;
    }
