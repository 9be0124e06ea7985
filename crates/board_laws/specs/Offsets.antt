-- What is shown of the place of each offset is shown of the place that any offset names: one law for whatever goes place by place.
use Rattle.std.specs.Prelude.{ℕ, suc, ◌≤◌, ◌≡◌, true, false, eqb, leb}
use Rattle.std.proofs.Common.{arith, leb-true, eq-eqb}
use Rattle.std.proofs.lemmas.Bool.{eqb-false}
use Rattle.base.specs.Laws.{by_choice, by-test}
use Rattle.timer.specs.declared.Select.{Select}
use Rattle.timer.specs.declared.Select.TheVariants.{Counter0, Counter1, Counter2}
use Rattle.ports.specs.declared.Port.{Port}
use Rattle.ports.specs.declared.Port.TheVariants.{PortA, PortB, PortC}
use Rattle.bus.specs.Place.{fixed_place, paged_place, place_of}
use Rattle.bus.specs.declared.Place.{Place}
use Rattle.bus.specs.declared.Place.TheVariants.{Base0, Base1, Base2, Base3, Base4, Base5, Base6, Base7}
use Rattle.bus.specs.declared.Place.TheVariants.{Base8, Base9, Base10, Base11, Count, ControlWord, PortData, PortControl}
use Rattle.bus.specs.declared.Place.TheVariants.{Reserved, Auxiliary, CalData, CalAddress, CalBase14, CalBase15, Outside}

module _ (P : Place → Type 0) where
  -- offset 12 and above, whatever the page
  pub record Above : Type 0 where
    pub count : (s : Select) → P (Count s)
    pub control_word : P ControlWord
    pub port_data : (q : Port) → P (PortData q)
    pub port_control : P PortControl
    pub reserved : P Reserved
    pub auxiliary : P Auxiliary
    pub cal_data : P CalData
    pub cal_address : P CalAddress
    pub cal_base14 : P CalBase14
    pub cal_base15 : P CalBase15
    pub outside : P Outside

  -- every offset, with what it is at hand
  pub record Each (n : ℕ) : Type 0 where
    pub base0 : eqb n 0 ≡ true → P Base0
    pub base1 : eqb n 1 ≡ true → P Base1
    pub base2 : eqb n 2 ≡ true → P Base2
    pub base3 : eqb n 3 ≡ true → P Base3
    pub base4 : eqb n 4 ≡ true → P Base4
    pub base5 : eqb n 5 ≡ true → P Base5
    pub base6 : eqb n 6 ≡ true → P Base6
    pub base7 : eqb n 7 ≡ true → P Base7
    pub base8 : eqb n 8 ≡ true → P Base8
    pub base9 : eqb n 9 ≡ true → P Base9
    pub base10 : eqb n 10 ≡ true → P Base10
    pub base11 : eqb n 11 ≡ true → P Base11
    pub above : leb n 11 ≡ false → Above

  module _ (n : ℕ) (e : Each n) where
    -- an offset that is at least k and is not k is above it
    up : (k : ℕ) → k ≤ n → eqb n k ≡ false → suc k ≤ n
    up k l h = omega (arith, l, eqb-false n k h)

    fixed : leb n 11 ≡ true → P (fixed_place n)
    fixed h =
        by-test P (eqb n 0) e.base0 (λ no0.
        by-test P (eqb n 1) e.base1 (λ no1.
        by-test P (eqb n 2) e.base2 (λ no2.
        by-test P (eqb n 3) e.base3 (λ no3.
        by-test P (eqb n 4) e.base4 (λ no4.
        by-test P (eqb n 5) e.base5 (λ no5.
        by-test P (eqb n 6) e.base6 (λ no6.
        by-test P (eqb n 7) e.base7 (λ no7.
        by-test P (eqb n 8) e.base8 (λ no8.
        by-test P (eqb n 9) e.base9 (λ no9.
        by-test P (eqb n 10) e.base10 (λ no10.
        let from-11 : 11 ≤ n =
        up 10 (up 9 (up 8 (up 7 (up 6 (up 5 (up 4 (up 3 (up 2 (up 1 (up 0 (omega arith) no0) no1) no2) no3) no4) no5) no6) no7) no8) no9) no10 in
        e.base11 (eq-eqb n 11 (omega (arith, leb-true n 11 h, from-11))))))))))))))

    paged : Above → (page : ℕ) → P (paged_place page n)
    paged a page =
        by_choice P (eqb page 0)
        (by_choice P (eqb n 12) (a.count Counter0) (by_choice P (eqb n 13) (a.count Counter1) (by_choice P (eqb n 14) (a.count Counter2) a.control_word)))
        (by_choice P (eqb page 1)
        (by_choice P (eqb n 12) (a.port_data PortA) (by_choice P (eqb n 13) (a.port_data PortB) (by_choice P (eqb n 14) (a.port_data PortC) a.port_control)))
        (by_choice P (eqb page 2)
        (by_choice P (eqb n 15) a.auxiliary a.reserved)
        (by_choice P (eqb n 12) a.cal_data (by_choice P (eqb n 13) a.cal_address (by_choice P (eqb n 14) a.cal_base14 a.cal_base15)))))

    pub of_offset : (page : ℕ) → P (place_of page n)
    unfolding place_of
    of_offset page =
        by-test P (leb n 11) fixed (λ h. by_choice P (leb n 15) (paged (e.above h) page) (e.above h).outside)
