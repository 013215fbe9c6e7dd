-- States of the second program's cases for numbers, and that the definitions tell the same of each, twice: first as
-- document 01 counts, then as the number is held in sixteen bits. A line is the number in four digits, then each value
-- plus 128 in two. The states are 0, the highest, and others about 255 and where values begin again. Made by
-- tools/theorems.
use Prim.Native.Nat.{ℕ}
use mathlib.Core.Path.{◌≡◌, refl}
use mathlib.Core.List.{List, [], ◌∷◌, map}
use Rattle.syntax.specs.Bytes.{bytes}
use Rattle.meaning.proofs.Printing.{Case, numbers_of, printing}

unfoldable asked : List Case
asked =
    numbers_of (bytes "monitor m { var a = 0 in 0..63; var b = 0 in 0..63; keep true; method m0 { waituntil (true) { } } method m1 { waituntil (a == 63 && b == 63) { a := 64; } } }") (0 ∷ 1 ∷ 63 ∷ 64 ∷ 65 ∷ 255 ∷ 256 ∷ 257 ∷ 4031 ∷ 4032 ∷ 4094 ∷ 4095 ∷ [])
    ∷ numbers_of (bytes "monitor m { var a = 0 in -128..127; var b = 0 in 0..15; keep true; method m0 { waituntil (true) { } } method m1 { waituntil (a == 127 && b == 15) { a := 128; } } }") (0 ∷ 1 ∷ 15 ∷ 16 ∷ 255 ∷ 256 ∷ 2048 ∷ 4079 ∷ 4080 ∷ 4095 ∷ [])
    ∷ numbers_of (bytes "monitor m { var a = 0 in 0..15; var b = 0 in -128..127; keep true; method m0 { waituntil (true) { } } method m1 { waituntil (a == 15 && b == 127) { b := 128; } } }") (0 ∷ 1 ∷ 127 ∷ 128 ∷ 255 ∷ 256 ∷ 300 ∷ 3839 ∷ 3840 ∷ 4095 ∷ [])
    ∷ numbers_of (bytes "monitor m { var a = 0 in 0..3; var b = 0 in 0..3; var c = 0 in 0..3; var d = 0 in 0..3; var e = 0 in 0..3; var f = 0 in 0..3; keep true; method m0 { waituntil (true) { } } method m1 { waituntil (a == 3 && b == 3 && c == 3 && d == 3 && e == 3 && f == 3) { f := 4; } } }") (0 ∷ 1 ∷ 4 ∷ 64 ∷ 255 ∷ 256 ∷ 1023 ∷ 1024 ∷ 2730 ∷ 4095 ∷ [])
    ∷ numbers_of (bytes "monitor m { var a = 0 in 0..1; var b = 0 in 0..1; var c = 0 in 0..3; var d = 0 in 0..3; var e = 0 in 0..7; var f = 0 in 0..7; keep true; method m0 { waituntil (true) { } } method m1 { waituntil (a == 1 && b == 1 && c == 3 && d == 3 && e == 7 && f == 7) { f := 8; } } }") (0 ∷ 8 ∷ 255 ∷ 256 ∷ 1023 ∷ 1024 ∷ 2047 ∷ 2048 ∷ 4095 ∷ [])
    ∷ numbers_of (bytes "monitor m { var a = 0 in -8..7; var b = 0 in -15..0; var c = 1 in 1..16; keep true; method m0 { waituntil (true) { } } method m1 { waituntil (a == 7 && b == 0 && c == 16) { b := 1; } } }") (0 ∷ 15 ∷ 16 ∷ 255 ∷ 256 ∷ 4095 ∷ [])
    ∷ numbers_of (bytes "monitor m { var a = 0 in 0..7; var b = 0 in 0..7; var c = 0 in 0..7; var d = 0 in 0..7; keep true; method m0 { waituntil (true) { } } method m1 { waituntil (a == 7 && b == 7 && c == 7 && d == 7) { d := 8; } } }") (0 ∷ 7 ∷ 8 ∷ 64 ∷ 255 ∷ 256 ∷ 511 ∷ 512 ∷ 4095 ∷ [])
    ∷ numbers_of (bytes "monitor m { var a = 0 in 0..1; var b = 0 in -1..1; var c = 0 in 0..3; var d = 0 in -2..2; var e = 7 in 5..10; var f = 0 in -4..0; keep true; method m0 { waituntil (true) { } } method m1 { waituntil (a == 1 && b == 1 && c == 3 && d == 2 && e == 10 && f == 0) { c := 4; } } }") (0 ∷ 1 ∷ 5 ∷ 30 ∷ 150 ∷ 255 ∷ 256 ∷ 600 ∷ 1799 ∷ 1800 ∷ 2199 ∷ 3599 ∷ [])
    ∷ numbers_of (bytes "monitor m { var a = 0 in -3..3; var b = 0 in -4..4; var c = 0 in -6..6; var d = 0 in -2..2; keep true; method m0 { waituntil (true) { } } method m1 { waituntil (a == 3 && b == 4 && c == 6 && d == 2) { d := 3; } } }") (0 ∷ 4 ∷ 5 ∷ 65 ∷ 255 ∷ 256 ∷ 300 ∷ 584 ∷ 585 ∷ 3510 ∷ 4094 ∷ [])
    ∷ numbers_of (bytes "monitor m { var a = -1 in -63..-1; var b = 0 in -32..32; keep true; method m0 { waituntil (true) { } } method m1 { waituntil (a == -1 && b == 32) { a := 0; } } }") (0 ∷ 64 ∷ 65 ∷ 255 ∷ 256 ∷ 4030 ∷ 4094 ∷ [])
    ∷ numbers_of (bytes "monitor m { var a = 0 in 0..2; var b = 0 in 0..2; var c = 0 in 0..4; var d = 0 in 0..6; var e = 0 in 0..12; keep true; method m0 { waituntil (true) { } } method m1 { waituntil (a == 2 && b == 2 && c == 4 && d == 6 && e == 12) { a := 3; } } }") (0 ∷ 13 ∷ 91 ∷ 255 ∷ 256 ∷ 455 ∷ 1365 ∷ 4094 ∷ [])
    ∷ numbers_of (bytes "monitor m { var a = 0 in 0..2; var b = 12 in 10..14; var c = -3 in -7..-1; keep true; method m0 { waituntil (true) { } } method m1 { waituntil (a == 2 && b == 14 && c == -1) { c := 0; } } }") (0 ∷ 6 ∷ 7 ∷ 35 ∷ 55 ∷ 59 ∷ 70 ∷ 104 ∷ [])
    ∷ numbers_of (bytes "monitor m { var a = 0 in -128..127; keep true; method m0 { waituntil (true) { } } method m1 { waituntil (a == 127) { a := 128; } } }") (0 ∷ 1 ∷ 127 ∷ 128 ∷ 255 ∷ [])
    ∷ numbers_of (bytes "monitor m { var a = 0 in 0..15; var b = 0 in -128..127; keep true; try a != 2; method m0 { waituntil (a == 1 && b == -84) { a := 2; } } }") (0 ∷ 44 ∷ 255 ∷ 256 ∷ 300 ∷ 4095 ∷ [])
    ∷ numbers_of (bytes "monitor m { var a = 63 in 0..63; var b = 63 in 0..63; keep a == 63 && b == 63; method m0 { waituntil (true) { } } method m1 { waituntil (a < 63) { a := 64; } } }") (0 ∷ 4094 ∷ 4095 ∷ [])
    ∷ numbers_of (bytes "monitor m { var a = 63 in 0..63; var b = 63 in 0..63; keep a < 63 || b < 63; method m0 { waituntil (true) { } } method m1 { waituntil (a < 63) { a := a + 1; } } }") (0 ∷ 4094 ∷ 4095 ∷ [])
    ∷ numbers_of (bytes "monitor m { var a = 5 in 5..5; var b = 0 in 0..63; var c = 0 in 0..63; keep true; method m0 { waituntil (true) { } } method m1 { waituntil (a == 5 && b == 63 && c == 63) { a := 6; } } }") (0 ∷ 63 ∷ 64 ∷ 66 ∷ 256 ∷ 4095 ∷ [])
    ∷ numbers_of (bytes "monitor m { var a = 0 in 0..63; var b = -7 in -7..-7; var c = 0 in 0..63; keep true; method m0 { waituntil (true) { } } method m1 { waituntil (a == 63 && b == -7 && c == 63) { b := -8; } } }") (0 ∷ 63 ∷ 64 ∷ 66 ∷ 256 ∷ 4095 ∷ [])
    ∷ numbers_of (bytes "monitor m { var a = 0 in 0..63; var b = 0 in 0..63; var c = 127 in 127..127; keep true; method m0 { waituntil (true) { } } method m1 { waituntil (a == 63 && b == 63 && c == 127) { c := 128; } } }") (0 ∷ 63 ∷ 64 ∷ 66 ∷ 256 ∷ 4095 ∷ [])
    ∷ numbers_of (bytes "monitor m { var a = -128 in -128..-128; var b = 127 in 127..127; keep true; method m0 { waituntil (true) { } } method m1 { waituntil (a == -128 && b == 127) { b := 0; } } }") (0 ∷ [])
    ∷ []

unfoldable told : List (List ℕ)
told =
    (bytes "00008080\n00008080\n00018081\n00018081\n003F80BF\n003F80BF\n00408180\n00408180\n00418181\n00418181\n00FF83BF\n00FF83BF\n01008480\n01008480\n01018481\n01018481\n0FBFBEBF\n0FBFBEBF\n0FC0BF80\n0FC0BF80\n0FFEBFBE\n0FFEBFBE\n0FFFBFBF\n0FFFBFBF\n")
    ∷ (bytes "00000080\n00000080\n00010081\n00010081\n000F008F\n000F008F\n00100180\n00100180\n00FF0F8F\n00FF0F8F\n01001080\n01001080\n08008080\n08008080\n0FEFFE8F\n0FEFFE8F\n0FF0FF80\n0FF0FF80\n0FFFFF8F\n0FFFFF8F\n")
    ∷ (bytes "00008000\n00008000\n00018001\n00018001\n007F807F\n007F807F\n00808080\n00808080\n00FF80FF\n00FF80FF\n01008100\n01008100\n012C812C\n012C812C\n0EFF8EFF\n0EFF8EFF\n0F008F00\n0F008F00\n0FFF8FFF\n0FFF8FFF\n")
    ∷ (bytes "0000808080808080\n0000808080808080\n0001808080808081\n0001808080808081\n0004808080808180\n0004808080808180\n0040808081808080\n0040808081808080\n00FF808083838383\n00FF808083838383\n0100808180808080\n0100808180808080\n03FF808383838383\n03FF808383838383\n0400818080808080\n0400818080808080\n0AAA828282828282\n0AAA828282828282\n0FFF838383838383\n0FFF838383838383\n")
    ∷ (bytes "0000808080808080\n0000808080808080\n0008808080808180\n0008808080808180\n00FF808080838787\n00FF808080838787\n0100808081808080\n0100808081808080\n03FF808083838787\n03FF808083838787\n0400808180808080\n0400808180808080\n07FF808183838787\n07FF808183838787\n0800818080808080\n0800818080808080\n0FFF818183838787\n0FFF818183838787\n")
    ∷ (bytes "0000787181\n0000787181\n000F787190\n000F787190\n0010787281\n0010787281\n00FF788090\n00FF788090\n0100797181\n0100797181\n0FFF878090\n0FFF878090\n")
    ∷ (bytes "000080808080\n000080808080\n000780808087\n000780808087\n000880808180\n000880808180\n004080818080\n004080818080\n00FF80838787\n00FF80838787\n010080848080\n010080848080\n01FF80878787\n01FF80878787\n020081808080\n020081808080\n0FFF87878787\n0FFF87878787\n")
    ∷ (bytes "0000807F807E857C\n0000807F807E857C\n0001807F807E857D\n0001807F807E857D\n0005807F807E867C\n0005807F807E867C\n001E807F807F857C\n001E807F807F857C\n0096807F817E857C\n0096807F817E857C\n00FF807F8181887C\n00FF807F8181887C\n0100807F8181887D\n0100807F8181887D\n02588080807E857C\n02588080807E857C\n0707808183828A80\n0707808183828A80\n0708817F807E857C\n0708817F807E857C\n0897817F82818680\n0897817F82818680\n0E0F818183828A80\n0E0F818183828A80\n")
    ∷ (bytes "00007D7C7A7E\n00007D7C7A7E\n00047D7C7A82\n00047D7C7A82\n00057D7C7B7E\n00057D7C7B7E\n00417D7D7A7E\n00417D7D7A7E\n00FF7D7F867E\n00FF7D7F867E\n01007D7F867F\n01007D7F867F\n012C7D80827E\n012C7D80827E\n02487D848682\n02487D848682\n02497E7C7A7E\n02497E7C7A7E\n0DB6837C7A7E\n0DB6837C7A7E\n0FFE83848682\n0FFE83848682\n")
    ∷ (bytes "00004160\n00004160\n004041A0\n004041A0\n00414260\n00414260\n00FF449C\n00FF449C\n0100449D\n0100449D\n0FBE7F60\n0FBE7F60\n0FFE7FA0\n0FFE7FA0\n")
    ∷ (bytes "00008080808080\n00008080808080\n000D8080808180\n000D8080808180\n005B8080818080\n005B8080818080\n00FF8080828588\n00FF8080828588\n01008080828589\n01008080828589\n01C78081808080\n01C78081808080\n05558180808080\n05558180808080\n0FFE828284868C\n0FFE828284868C\n")
    ∷ (bytes "0000808A79\n0000808A79\n0006808A7F\n0006808A7F\n0007808B79\n0007808B79\n0023818A79\n0023818A79\n0037818C7F\n0037818C7F\n003B818D7C\n003B818D7C\n0046828A79\n0046828A79\n0068828E7F\n0068828E7F\n")
    ∷ (bytes "000000\n000000\n000101\n000101\n007F7F\n007F7F\n008080\n008080\n00FFFF\n00FFFF\n")
    ∷ (bytes "00008000\n00008000\n002C802C\n002C802C\n00FF80FF\n00FF80FF\n01008100\n01008100\n012C812C\n012C812C\n0FFF8FFF\n0FFF8FFF\n")
    ∷ (bytes "00008080\n00008080\n0FFEBFBE\n0FFEBFBE\n0FFFBFBF\n0FFFBFBF\n")
    ∷ (bytes "00008080\n00008080\n0FFEBFBE\n0FFEBFBE\n0FFFBFBF\n0FFFBFBF\n")
    ∷ (bytes "0000858080\n0000858080\n003F8580BF\n003F8580BF\n0040858180\n0040858180\n0042858182\n0042858182\n0100858480\n0100858480\n0FFF85BFBF\n0FFF85BFBF\n")
    ∷ (bytes "0000807980\n0000807980\n003F8079BF\n003F8079BF\n0040817980\n0040817980\n0042817982\n0042817982\n0100847980\n0100847980\n0FFFBF79BF\n0FFFBF79BF\n")
    ∷ (bytes "00008080FF\n00008080FF\n003F80BFFF\n003F80BFFF\n00408180FF\n00408180FF\n00428182FF\n00428182FF\n01008480FF\n01008480FF\n0FFFBFBFFF\n0FFFBFBFFF\n")
    ∷ (bytes "000000FF\n000000FF\n")
    ∷ []

same : map printing asked ≡ told
unfolding asked told printing
same = refl
