-- Worked runs of a panel newly started, as computed claims about the definitions. The first is document 01's. The figures of the
-- second are chosen so that a slip in any rule of depths, shifted voids, weights, arms or verdict changes a reply, and so that two fields
-- read in each other's place do (but VOID and GRAIN, whose exchange leaves every figure as it is, and EDGE under `old`): unlike columns with D between them;
-- EDGE below 1,200 under `new`; an `old` ship with D 940, where the heeling arm at 1,200 is W itself, so that DIFF shows W to the unit;
-- wings, hatches and void cells; a wing whose depth lies between two tenths and its area between two whole mm², 946.12 and 6,983,902.2;
-- one whose two terms have hundredths, 447.34 + 189.75, so that each rounded by itself gives another tenth; one at the least depth; an
-- excess that moves past a cell with room, a void that does not fit; FLOOD inside a step; each of 40 to 43 once, and a DIFF below zero
-- beyond UPPER with 00. The third is of partly filled parts of each shape, the fourth of show lines, the fifth of totals,
-- the sixth of weight items, the seventh of boards.
use Rattle.std.specs.Prelude.{◌≡◌, List, [], ◌∷◌, map, ℕ, take}
use Prim.Native.String.{String}
use Rattle.whole.specs.Bytes.{bytes}
use Rattle.grain.specs.Sum.{weight_moment}
use Rattle.condition.specs.Condition.{empty}
use Rattle.panel.specs.Step.{Outcome, Sent, condition_after, outcomes}

-- lines sent with a buffer of so many bytes, and the replies to them
abbrev pub sent_with : ℕ → List String → List Sent
sent_with lent ls = map (λ (s : String). record { line = bytes s; lent = lent }) ls

abbrev pub replies : ℕ → List String → List (List ℕ)
replies lent ls = map (λ (o : Outcome). o.reply) (outcomes empty (sent_with lent ls))

-- document 01's whole input, a drop, a clear and a judge behind it
abbrev pub first : List String
first =
    "(ship new 1430 3500)"
    ∷ "(column 20000 9000 (0 870 1740 2080 2600 3450 4300 5100 5850 6500))"
    ∷ "(column 30000 9000 (0 870 1740 2080 2600 3450 4300 5100 5850 6500))"
    ∷ "(load 25000 8000 100)"
    ∷ "(hold 1 trimmed 12500 (part 10000 (void 10000 500 5000)))"
    ∷ "(hold 2 partial 12500 (part 10000 12000 3000 6000))"
    ∷ "(judge)"
    ∷ "(drop 1)"
    ∷ "(clear)"
    ∷ "(judge)"
    ∷ []

-- the replies, and the weight moments of holds 1 and 2
abbrev pub FirstRun : Type 0
FirstRun =
    (replies 96 first
    ≡ map bytes
    ("(answer 00)\n"
    ∷ "(answer 00)\n"
    ∷ "(answer 00)\n"
    ∷ "(answer 00)\n"
    ∷ "(answer 00)\n"
    ∷ "(answer 00)\n"
    ∷ "(verdict 00 900000 368832 3500 2012606617)\n"
    ∷ "(answer 00)\n"
    ∷ "(answer 00)\n"
    ∷ "(verdict 30)\n"
    ∷ []))
    × (map weight_moment (take 2 (condition_after empty (sent_with 96 (take 6 first))).holds) ≡ 118548 ∷ 601653 ∷ [])

abbrev pub second : List String
second =
    "(ship old 870 3777)"
    ∷ "(column 683 7411 (0 640 1290 1560 1950 2600 3260 3870 4480 5090))"
    ∷ "(column 1307 7903 (0 712 1423 1711 2139 2851 3571 4259 4913 5543))"
    ∷ "(load 940 5317 83)"
    ∷ "(hold 3 trimmed 12347 (part 1733 (wing 6250 1730 1210 450) (hatch 5110 870 0) (wing 7381 9264 940 3100) (void 4730 390 9370)))"
    ∷ "(hold 7 voided 13861 (part 1919 (wing 4310 2633 853 0) (hatch 6120 910 1650) (wing 5290 5730 770 8650)) (part 1173 (void 5570 610 90) (wing 8080 3630 133 2870)))"
    ∷ "(hold 16 partial 17489 (part 2211 8837 2213 4242))"
    ∷ "(judge)"
    ∷ "(ship new 950 3777)"
    ∷ "(judge)"
    ∷ "(hold 7 voided 9973 (part 611 (void 5110 1000 1399) (void 3001 7 11)))"
    ∷ "(load 940 10621 83)"
    ∷ "(judge)"
    ∷ "(load 940 5317 83)"
    ∷ "(ship new 9000 1333)"
    ∷ "(judge)"
    ∷ "(column 2089 8237 (0 1733 2611 2843 2957 2213 2351 3677 4391 6173))"
    ∷ "(load 1999 6143 57)"
    ∷ "(ship new 1117 9000)"
    ∷ "(judge)"
    ∷ "(ship new 1117 1477)"
    ∷ "(judge)"
    ∷ "(drop 3)"
    ∷ "(judge)"
    ∷ []

abbrev pub SecondRun : Type 0
SecondRun =
    replies 96 second
    ≡ map bytes
    ("(answer 00)\n"
    ∷ "(answer 00)\n"
    ∷ "(answer 00)\n"
    ∷ "(answer 00)\n"
    ∷ "(answer 00)\n"
    ∷ "(answer 00)\n"
    ∷ "(answer 00)\n"
    ∷ "(verdict 00 2213634 117120 3777 1911234868)\n"
    ∷ "(answer 00)\n"
    ∷ "(verdict 41 2213634 -1160 3777 1911234868)\n"
    ∷ "(answer 21)\n"
    ∷ "(answer 00)\n"
    ∷ "(verdict 40 -3090366 -876314 0 0)\n"
    ∷ "(answer 00)\n"
    ∷ "(answer 00)\n"
    ∷ "(verdict 43 2213634 117120 1333 33879194)\n"
    ∷ "(answer 00)\n"
    ∷ "(answer 00)\n"
    ∷ "(answer 00)\n"
    ∷ "(verdict 42 1998560 1232283 4000 2626433542)\n"
    ∷ "(answer 00)\n"
    ∷ "(verdict 00 1998560 1232283 1477 1278696842)\n"
    ∷ "(answer 00)\n"
    ∷ "(verdict 00 1998560 1349085 1477 1447262434)\n"
    ∷ [])

-- partly filled parts, one of each shape, so that DIFF is −208 − W: the line of 25 degrees uncut; the void as a triangle; the
-- grain as a triangle; from deck to floor
abbrev pub decks : List String
decks =
    "(ship old 1 4000)"
    ∷ "(column 100 50000 (0 0 0 0 0 0 0 0 0 0))"
    ∷ "(column 2000 50000 (0 0 0 0 0 0 0 0 0 0))"
    ∷ "(load 940 1 0)"
    ∷ "(hold 1 partial 12500 (part 10000 12000 3000 6000))"
    ∷ "(judge)"
    ∷ "(hold 1 partial 12500 (part 10000 12000 600 6000))"
    ∷ "(judge)"
    ∷ "(hold 1 partial 12500 (part 10000 20000 9000 500))"
    ∷ "(judge)"
    ∷ "(hold 1 partial 12500 (part 10000 20000 1500 1500))"
    ∷ "(judge)"
    ∷ []

abbrev pub DeckRun : Type 0
DeckRun =
    replies 96 decks
    ≡ map bytes
    ("(answer 00)\n"
    ∷ "(answer 00)\n"
    ∷ "(answer 00)\n"
    ∷ "(answer 00)\n"
    ∷ "(answer 00)\n"
    ∷ "(verdict 41 49999000 -601861 4000 0)\n"
    ∷ "(answer 00)\n"
    ∷ "(verdict 41 49999000 -267783 4000 0)\n"
    ∷ "(answer 00)\n"
    ∷ "(verdict 41 49999000 -700612 4000 0)\n"
    ∷ "(answer 00)\n"
    ∷ "(verdict 41 49999000 -1297852 4000 0)\n"
    ∷ [])

-- show: each form that it takes, and what it does not take; five deep behind `show` alone, numbers as they are written, nothing stored
abbrev pub shows : List String
shows =
    "(show(ship new 1430 3500))"
    ∷ "( show ( column 1 2( 0 1  2 3 4 5 6 7 8 999999999 ) ) )"
    ∷ "(show (load 65536 65536 65536))"
    ∷ "  (show(hold 99 trimmed 1(part 1(wing 1 2 3 4)(hatch 1 2 3))(part 70000(void 1 2 3))))  "
    ∷ "(show (hold 1 partial 2 (part 3 4 5 6)))"
    ∷ "(show (drop 99))"
    ∷ "(show (judge))"
    ∷ "(show (clear))"
    ∷ "(show (show (judge)))"
    ∷ "(show)"
    ∷ "(show (judge) (judge))"
    ∷ "(show (part 3 4 5 6))"
    ∷ "(show judge)"
    ∷ "(show (drop))"
    ∷ "(show (a (b (c (d)))))"
    ∷ "(show (a (b (c (01)))))"
    ∷ "(show (a (b (c (d (e))))))"
    ∷ "(shown (a (b (c (d)))))"
    ∷ "((show (a (b (c)))))"
    ∷ "(judge)"
    ∷ []

-- the replies; and with one byte less than 2,100 lent: 16, but behind 14
abbrev pub ShowRun : Type 0
ShowRun =
    (replies 2100 shows
    ≡ map bytes
    ("(ship new 1430 3500)\n"
    ∷ "(column 1 2 (0 1 2 3 4 5 6 7 8 999999999))\n"
    ∷ "(load 65536 65536 65536)\n"
    ∷ "(hold 99 trimmed 1 (part 1 (wing 1 2 3 4) (hatch 1 2 3)) (part 70000 (void 1 2 3)))\n"
    ∷ "(hold 1 partial 2 (part 3 4 5 6))\n"
    ∷ "(drop 99)\n"
    ∷ "(judge)\n"
    ∷ "(clear)\n"
    ∷ "(answer 14)\n"
    ∷ "(answer 14)\n"
    ∷ "(answer 14)\n"
    ∷ "(answer 14)\n"
    ∷ "(answer 14)\n"
    ∷ "(answer 14)\n"
    ∷ "(answer 14)\n"
    ∷ "(answer 13)\n"
    ∷ "(answer 12)\n"
    ∷ "(answer 12)\n"
    ∷ "(answer 12)\n"
    ∷ "(verdict 30)\n"
    ∷ []))
    × (replies 2099 ("(show (judge))" ∷ "(show)" ∷ []) ≡ map bytes ("(answer 16)\n" ∷ "(answer 14)\n" ∷ []))

-- totals: of nothing; of one hold, and two; of one replaced, refused with 21 and with 20, shown, dropped, and not there; above the limit of 34; with
-- items, and in a show; after a clear
abbrev pub totals : List String
totals =
    "(total)"
    ∷ "(hold 1 trimmed 12500 (part 10000 (void 10000 500 5000)))"
    ∷ "(total)"
    ∷ "(hold 2 partial 12500 (part 10000 12000 3000 6000))"
    ∷ "( total )"
    ∷ "(hold 2 partial 12500 (part 10000 12000 600 6000))"
    ∷ "(total)"
    ∷ "(hold 2 voided 9973 (part 611 (void 5110 1000 1399) (void 3001 7 11)))"
    ∷ "(hold 17 partial 12500 (part 10000 12000 600 6000))"
    ∷ "(show (hold 2 partial 12500 (part 10000 12000 3000 6000)))"
    ∷ "(total)"
    ∷ "(drop 2)"
    ∷ "(total)"
    ∷ "(drop 2)"
    ∷ "(total)"
    ∷ "(ship new 1430 3500)"
    ∷ "(column 20000 9000 (0 870 1740 2080 2600 3450 4300 5100 5850 6500))"
    ∷ "(column 30000 9000 (0 870 1740 2080 2600 3450 4300 5100 5850 6500))"
    ∷ "(load 25000 8000 100)"
    ∷ "(hold 16 partial 5000 (part 60000 40000 9322 30000) (part 60000 40000 9322 30000) (part 60000 40000 9322 30000) (part 60000 40000 9322 30000) (part 60000 40000 9322 30000) (part 60000 40000 9322 30000))"
    ∷ "(judge)"
    ∷ "(total)"
    ∷ "(total 1)"
    ∷ "(total ())"
    ∷ "(show (total))"
    ∷ "(clear)"
    ∷ "(total)"
    ∷ []

abbrev pub TotalRun : Type 0
TotalRun =
    replies 2100 totals
    ≡ map bytes
    ("(answer 00 0)\n"
    ∷ "(answer 00)\n"
    ∷ "(answer 00 118548)\n"
    ∷ "(answer 00)\n"
    ∷ "(answer 00 720201)\n"
    ∷ "(answer 00)\n"
    ∷ "(answer 00 386123)\n"
    ∷ "(answer 21)\n"
    ∷ "(answer 20)\n"
    ∷ "(hold 2 partial 12500 (part 10000 12000 3000 6000))\n"
    ∷ "(answer 00 386123)\n"
    ∷ "(answer 00)\n"
    ∷ "(answer 00 118548)\n"
    ∷ "(answer 24)\n"
    ∷ "(answer 00 118548)\n"
    ∷ "(answer 00)\n"
    ∷ "(answer 00)\n"
    ∷ "(answer 00)\n"
    ∷ "(answer 00)\n"
    ∷ "(answer 00)\n"
    ∷ "(verdict 34)\n"
    ∷ "(answer 00 2005723730)\n"
    ∷ "(answer 14)\n"
    ∷ "(answer 14)\n"
    ∷ "(answer 14)\n"
    ∷ "(answer 00)\n"
    ∷ "(answer 00 0)\n"
    ∷ [])

-- weight items: a load of none; of two, and of three that make D and KG of document 01's load; above 400,000 tonnes, outside the limits, in a show, with a number
-- too few or too many; an unweigh and a clear that are turned down; KG rounded up; a load line between, after which the items make the same load again; none
-- left, and the load stays; 99 tonnes, 100, and 400,000; KG 1 for 0; after a clear
abbrev pub weighings : List String
weighings =
    "(ship new 1430 3500)"
    ∷ "(column 20000 9000 (0 870 1740 2080 2600 3450 4300 5100 5850 6500))"
    ∷ "(column 30000 9000 (0 870 1740 2080 2600 3450 4300 5100 5850 6500))"
    ∷ "(hold 1 trimmed 12500 (part 10000 (void 10000 500 5000)))"
    ∷ "(hold 2 partial 12500 (part 10000 12000 3000 6000))"
    ∷ "(weighed 10001)"
    ∷ "(weighed 100)"
    ∷ "(weight 20000 7000)"
    ∷ "(weight 4999 12000)"
    ∷ "(weighed 100)"
    ∷ "(judge)"
    ∷ "(weight 1 12000)"
    ∷ "(weighed 99)"
    ∷ "(judge)"
    ∷ "(weight 375001 0)"
    ∷ "(weight 400001 0)"
    ∷ "(weight 0 5)"
    ∷ "(weight 1 50001)"
    ∷ "(weighed 10001)"
    ∷ "(show (weighed 100))"
    ∷ "(weight 1)"
    ∷ "(weighed)"
    ∷ "(unweigh 1)"
    ∷ "(clear 1)"
    ∷ "(weight 1 8001)"
    ∷ "(weighed 100)"
    ∷ "(judge)"
    ∷ "(load 25000 8601 100)"
    ∷ "(judge)"
    ∷ "(weighed 100)"
    ∷ "(judge)"
    ∷ "(unweigh)"
    ∷ "(unweigh)"
    ∷ "(weighed 100)"
    ∷ "(judge)"
    ∷ "(weight 99 50000)"
    ∷ "(weighed 0)"
    ∷ "(weight 1 50000)"
    ∷ "(weighed 0)"
    ∷ "(weight 399900 50000)"
    ∷ "(weighed 0)"
    ∷ "(judge)"
    ∷ "(unweigh)"
    ∷ "(weight 25000 0)"
    ∷ "(weighed 0)"
    ∷ "(judge)"
    ∷ "(clear)"
    ∷ "(weighed 0)"
    ∷ "(unweigh)"
    ∷ []

abbrev pub WeighingRun : Type 0
WeighingRun =
    replies 2100 weighings
    ≡ map bytes
    ("(answer 00)\n"
    ∷ "(answer 00)\n"
    ∷ "(answer 00)\n"
    ∷ "(answer 00)\n"
    ∷ "(answer 00)\n"
    ∷ "(answer 20)\n"
    ∷ "(answer 27)\n"
    ∷ "(answer 00)\n"
    ∷ "(answer 00)\n"
    ∷ "(answer 00)\n"
    ∷ "(verdict 00 900000 368831 3500 2012603204)\n"
    ∷ "(answer 00)\n"
    ∷ "(answer 00)\n"
    ∷ "(verdict 00 901000 369040 3500 2013640452)\n"
    ∷ "(answer 26)\n"
    ∷ "(answer 20)\n"
    ∷ "(answer 20)\n"
    ∷ "(answer 20)\n"
    ∷ "(answer 20)\n"
    ∷ "(answer 14)\n"
    ∷ "(answer 14)\n"
    ∷ "(answer 14)\n"
    ∷ "(answer 14)\n"
    ∷ "(answer 14)\n"
    ∷ "(answer 00)\n"
    ∷ "(answer 00)\n"
    ∷ "(verdict 00 899000 368625 3500 2011574365)\n"
    ∷ "(answer 00)\n"
    ∷ "(verdict 40 299000 243877 3500 1390812687)\n"
    ∷ "(answer 00)\n"
    ∷ "(verdict 00 899000 368625 3500 2011574365)\n"
    ∷ "(answer 00)\n"
    ∷ "(answer 00)\n"
    ∷ "(answer 27)\n"
    ∷ "(verdict 00 899000 368625 3500 2011574365)\n"
    ∷ "(answer 00)\n"
    ∷ "(answer 27)\n"
    ∷ "(answer 00)\n"
    ∷ "(answer 00)\n"
    ∷ "(answer 00)\n"
    ∷ "(answer 00)\n"
    ∷ "(verdict 33)\n"
    ∷ "(answer 00)\n"
    ∷ "(answer 00)\n"
    ∷ "(answer 00)\n"
    ∷ "(verdict 00 8999000 2052712 3500 10398693820)\n"
    ∷ "(answer 00)\n"
    ∷ "(answer 27)\n"
    ∷ "(answer 00)\n"
    ∷ [])

-- boards: one worked by hand, against parts from side to side; boards as long as what is taken off, and 1 mm longer; breadths unlike on either
-- side; beside a part; the greatest and the least; outside the limits, where sums of 16 bits would be within them; in holds of cells, with a
-- number too few or too many, alone; in a show; dropped
abbrev pub boards : List String
boards =
    "(hold 1 partial 12500 (split 20000 10000 6000 6000))"
    ∷ "(total)"
    ∷ "(hold 1 partial 12500 (part 20000 12000 600 6000))"
    ∷ "(total)"
    ∷ "(hold 1 partial 12500 (part 20000 12000 30000 30000))"
    ∷ "(total)"
    ∷ "(hold 1 partial 12500 (split 20000 1715 6000 6000))"
    ∷ "(total)"
    ∷ "(hold 1 partial 12500 (split 20000 1716 6000 6000))"
    ∷ "(total)"
    ∷ "(hold 1 partial 12500 (split 20000 20000 4001 8003))"
    ∷ "(total)"
    ∷ "(hold 1 partial 12500 (split 20000 20000 8003 4001))"
    ∷ "(total)"
    ∷ "(hold 1 partial 12500 (part 10000 12000 3000 6000) (split 20000 10000 6000 6000))"
    ∷ "(total)"
    ∷ "(hold 1 partial 12500 (split 60000 1 1 39999))"
    ∷ "(total)"
    ∷ "(hold 1 partial 12500 (split 60000 60000 1 1))"
    ∷ "(total)"
    ∷ "(hold 1 partial 12500 (split 20000 20001 6000 6000))"
    ∷ "(hold 1 partial 12500 (split 60001 1 1 1))"
    ∷ "(hold 1 partial 12500 (split 70000 70000 1 1))"
    ∷ "(hold 1 partial 12500 (split 1 0 1 1))"
    ∷ "(hold 1 partial 12500 (split 1 1 0 1))"
    ∷ "(hold 1 partial 12500 (split 0 0 0 0))"
    ∷ "(hold 1 partial 12500 (split 1 1 1 0))"
    ∷ "(hold 1 partial 12500 (split 1 1 20000 20001))"
    ∷ "(hold 1 partial 12500 (split 1 1 65536 1))"
    ∷ "(hold 1 partial 12500 (split 1 1 40000 25537))"
    ∷ "(hold 1 trimmed 12500 (split 20000 10000 6000 6000))"
    ∷ "(hold 1 voided 12500 (part 10000 (void 10000 500 5000)) (split 20000 10000 6000 6000))"
    ∷ "(hold 1 partial 12500 (split 20000 10000 6000))"
    ∷ "(hold 1 partial 12500 (split 20000 10000 6000 6000 6000))"
    ∷ "(hold 1 partial 12500 (split 20000 10000 6000 6000 6000 6000))"
    ∷ "(split 20000 10000 6000 6000)"
    ∷ "(show(hold 99 partial 1(split 2 3 4 5)(part 6 7 8 9)))"
    ∷ "(show (hold 1 trimmed 1 (split 2 3 4 5)))"
    ∷ "(total)"
    ∷ "(drop 1)"
    ∷ "(total)"
    ∷ []

abbrev pub BoardRun : Type 0
BoardRun =
    replies 2100 boards
    ≡ map bytes
    ("(answer 00)\n"
    ∷ "(answer 00 829453)\n"
    ∷ "(answer 00)\n"
    ∷ "(answer 00 535149)\n"
    ∷ "(answer 00)\n"
    ∷ "(answer 00 1203304)\n"
    ∷ "(answer 00)\n"
    ∷ "(answer 00 1203304)\n"
    ∷ "(answer 00)\n"
    ∷ "(answer 00 1203260)\n"
    ∷ "(answer 00)\n"
    ∷ "(answer 00 493357)\n"
    ∷ "(answer 00)\n"
    ∷ "(answer 00 493357)\n"
    ∷ "(answer 00)\n"
    ∷ "(answer 00 1431105)\n"
    ∷ "(answer 00)\n"
    ∷ "(answer 00 133700405)\n"
    ∷ "(answer 00)\n"
    ∷ "(answer 00 2)\n"
    ∷ "(answer 20)\n"
    ∷ "(answer 20)\n"
    ∷ "(answer 20)\n"
    ∷ "(answer 20)\n"
    ∷ "(answer 20)\n"
    ∷ "(answer 20)\n"
    ∷ "(answer 20)\n"
    ∷ "(answer 20)\n"
    ∷ "(answer 20)\n"
    ∷ "(answer 20)\n"
    ∷ "(answer 14)\n"
    ∷ "(answer 14)\n"
    ∷ "(answer 14)\n"
    ∷ "(answer 14)\n"
    ∷ "(answer 14)\n"
    ∷ "(answer 14)\n"
    ∷ "(hold 99 partial 1 (split 2 3 4 5) (part 6 7 8 9))\n"
    ∷ "(answer 14)\n"
    ∷ "(answer 00 2)\n"
    ∷ "(answer 00)\n"
    ∷ "(answer 00 0)\n"
    ∷ [])
