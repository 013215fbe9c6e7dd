-- What the second program printed for cases 180 to 199 of seed 7, and that the definitions print the same. Made by tools/theorems.
use Prim.Native.Nat.{ℕ}
use mathlib.Core.Path.{◌≡◌, refl}
use mathlib.Core.List.{List, [], ◌∷◌, ◌++◌, map}
use Rattle.syntax.specs.Bytes.{bytes}
use Rattle.meaning.proofs.Printing.{Case, whole, printing}

unfoldable asked : List Case
asked =
    whole (bytes "monitor m{var g0=4in 3..04;keep true;method y0{waituntil(g0!=3){g0:=g0-1;}}method B1{waituntil(g0!=04){g0:=g0+1;}}}") (bytes "090100\n020100\n0D0001\n090101\n")
    ∷ whole (bytes "monitor m{var B0=124in 124..127;keep true;try B0!=127;try B0==124;try B0==124;method f0{waituntil(true){if(B0!=124){B0:=124;}}}method g1{waituntil(-999mod B0<2){}}method y2{waituntil(B0>124){if(B0!=124){B0:=127;}}}}" ++ ((13 ∷ []))) (bytes "070200\n070201\n030001\n02D401\n")
    ∷ whole (bytes "monitor m { var g0 = 0 in 0 .. 2 ; var y1 = 5 in 005 .. 8 ; var B2 = - 001 in - 1 .. - 1 ; var Y3 = 1 in 1 .. 1 ; keep ! ( g0 != 35 ) ; method h0 { waituntil ( y1 < 8 ) { y1 := y1 + 1 ; } waituntil ( B2 > 0 ) { y1 := 5 mod B2 ; } waituntil ( true ) { y1 := 008 ; } } } ") ([])
    ∷ whole (bytes "monitor m{var d0=0in 00..1;keep true;method A0{waituntil(d0==01){d0:=0;}waituntil(d0==1){d0:=0;}}method e1{waituntil(d0==0){d0:=1;}}}") (bytes "020000\n0E0000\n070000\n000000\n0A0201\n020001\n020100\n")
    ∷ whole (bytes "monitor m { var Z0 = 04 in 1 .. 4 ; keep true ; try Z0 != 1 ; method B0 { ( ( ( ( ( ( ( ( ( ( ( ( ( ( waituntil ( Z0 mod 2 == 0 ) { Z0 := Z0 - 1 ; } waituntil ( Z0 mod 2 2 == 0 ) { } } method Y1 { waituntil ( Z0 != 4 ) { Z0 := Z0 + 1 ; } } method x2 { waituntil ( Z0 != 004 ) { Z0 := 4 ; } } } Z9  ") (bytes "060001\n060100\n0D0001\n0D0100\n0B0001\n0B0100\n0C0001\n0C0100\n090001\n")
    ∷ whole (bytes "monitor m { var A0 = 2 in 0 .. 2 ; keep true ; try ( A0 == 2 ) ; try A0 < 3 ; method h0 { waituntil ( A0 > 000 ) { A0 := 0 ; } } method e1 { waituntil ( A0 = 02 ) { A0 := A0 + 1 ; } } method B2 { waituntil ( A0 != 2 ) { A0 := A0 + 1 ; } } }") (bytes "0C0200\n040100\n050001\n050101\n080101\n")
    ∷ whole (bytes "monitor m{var y0=3in 3..4;keep true;try!(y0>=3);try y0<4;try true;method B0{waituntil(y0 mod 2==0){y0:=3;}waituntil(y0 mod 002==000){y0:=y0-1;}waituntil(y0 mod 002==00){y0:=y0-1;}}method d1{waituntil(y0!=04){y0:=y0+1;}}}") (bytes "060000\n030000\n0C0000\n0F0301\n060001\n060100\n030000\n0F0301\n030001\n030100\n060100\n0F0301\n")
    ∷ whole (bytes "monitor m{var Y0=0in 0..7;var A1=0in 0..2;keep true;method q8{waituntil(true){}}method q1{waituntil(true){}}method q3{waituntil(true){}}method A0{waituntil(true){}}method q2{waituntil(true){}}method q6{waituntil(true){}}method q7{waituntil(true){}}method q4{waituntil(true){}}method q5{waituntil(true){}}}") (bytes "_;1:Z->9)+\n-\n\n_Z>\nx) 1_x{){)}1> (<")
    ∷ whole (bytes "monitor m{var b0=-1in-2..2;keep true;try b0!=-2||b0<=-1;try b0==-1&&b0>=-1;method y0{waituntil(b0<2){b0:=b0+1;}}method c1{waituntil(b0==02){b0:=-2;}waituntil(b0<02){b0:=b0+1;}}}") (bytes "030001\n040001\n040100\n030001\n040101\n040201\n040100\n030100\n")
    ∷ whole (bytes "monitor m { var X0 = - 1 in - 1 .. 0 ; keep true ; method A0 { waituntil ( X0 mod 2 == 0 ) { X0 := - 1 ; } waituntil ( X0 mod 02 == 0 ) { X0 := X0 - 1 ; } } method f1 { waituntil ( X0 != 00 ) { X0 := 0 ; } waituntil ( X0 mod 002 == 0 ) { X0 := X0 - 1 ; } } }") (bytes "040000\n070000\n070200\n")
    ∷ whole (bytes "monitor m{var b0=-27in-27..-25;var h1=1in 0..2;keep true;try b0 mod 3==0;method b0{waituntil(false){if(1>2){}else{if(1>2){h1:=999;}}}waituntil(false){if(false){h1:=-1;}}}method Y1{waituntil(false){if(h1>0){h1:=h1 mod h1;}}waituntil(b0!=-25&&h1 mod 10-h1 mod-999==0){if(false){}else{if(false){h1:=3;}}}}}") (bytes "0D0001\n0D0000\n070101\n0C0000\n020000\n070000\n0F0200\n")
    ∷ whole (bytes "monitor m{var d0=0in 0..03;var d1=1in 000..1;var c2=-001in-1..0;var a3=-1in-1..-1;keep true;method b0{waituntil(d0>00){if(c2<0){c2:=c2+1;}else{c2:=-1;}c2:=c2 mod 01;}}method z1{waituntil(d0>0){if(c2>0){d0:=d0 mod c2;}}waituntil(a3>-1){a3:=a3-1;}}method a2{waituntil(d1>0){if(a3>0){d0:=d0 mod a3;}}}}") (bytes "0B0301\n0F0000\n0B0301\n0B0000\n0A0000\n010301\n")
    ∷ whole (bytes "monitor m { var a0 = 01 in 1 .. 4 ; keep tru\"e ; method d0 { waituntil ( a0 < 4 ) { a0 := a0 + 1 ; } } method b1 { waituntil ( a0 mod a0 == 0 ) { if ( 1 > 2 ) { a0 := 0 ; } } } method a2 { waituntil ( a0 mod a0 == 0 ) { a0 := a0 ; } } }") (bytes "0B0001\n090000\n020000\n010000\n080000\n0F0000\n0B0000\n070101\n")
    ∷ whole (bytes "monitor m{var A0=-1in-1..002;keep true;try A0==-1;try A0>=-1;try A0==-1;method x0{waituntil(A0 mod 002==000){A0:=A0-1;}}method c1{waituntil(A0<002){A0:=A0+A0 mod A0;if(2!=A0){A0:=-1;if(A0==0){A0:=A0 mod 3+A0;}else{}}else{A0:=-1;if(A0>-1){A0:=A0-1;}}}}method c2{waituntil(true){A0:=2;}}}") (bytes "0E0000\n0A0000\n060000\n0B0101\n0F0201\n020101\n0D0101\n020200\n0D0101\n050101\n")
    ∷ whole (bytes "monitor m{var y0______________=5in 0..15;keep true;method f0{waituntil(y0______________>0){y0______________:=y0______________-1;}}method g1{waituntil(y0______________==12){y0______________:=5;}}method B2{waituntil(y0______________!=000){if(false){y0______________:=y0______________-1;}else{}}}}") (bytes "040100\n010100\n0D0201\n030100\n0F0201\n0A0100\n060201\n0F0001\n070201\n050100\n")
    ∷ whole (bytes "monitor m { var g0 = 1 in 0 .. 1 ; keep true ; try g0 mod 2 == 1 ; method a0 { waituntil ( true ) { g0 := 1 ; } waituntil ( true ) { g0 := 1 ; } waituntil ( g0 >= 1 && g0 <= 1 || g0 > 0 ) { if ( g0 < 001 ) { g0 := g0 + 1 ; } else { g0 := 0 ; } g0 := g0 mod 2 ; } } method h1") (bytes "050101\n000101\n0F0101\n060100\n0B0100\n0C0001\n0F0200\n060101\n0F0201\n0B0101\n")
    ∷ whole (bytes "monitor m{var z0=0in 0..1;keep true;try z0>=00&&z0<=0;try z0<1;try z0==0;method A0{waituntil(z0!=000){z0:=z0-1;}}method a1{waituntil(z0<1){z0:=z0+1;}waituntil(z0<1){z0:=z0+1;}}}") (bytes "080101\n080200\n050001\n0B0101\n0B0200\n050100\n060001\n080201\n070001\n")
    ∷ whole (bytes "monitor m{var B0=-128in-128..-113;var h1=001in 1..2;keep true;method a0{waituntil(B0<-113){B0:=B0+1;}}method b1{waituntil(h1==2){h1:=2;}}method A2{waituntil(h1+B0>3){if(h1>=2){}else{B0:=-114;}}}}") (bytes "0C0100\n010200\n0a0000\n090001\n")
    ∷ whole (bytes "monitor m { var Z0 = 7 in 8 .. 5 ; var b1 = 6 in 5 .. 6 ; var Z2 = 0 in 00 .. 1 ; keep true ; try b1 == 6 ; method y0 { waituntil ( Z2 > 0 ) { Z2 := Z2 - 1 ; } waituntil ( Z2 > 0 ) { Z2 := Z2 - 1 ; } } method a1 { waituntil ( true ) { if ( b1 != 6 ) { b1 := 07 ; } } } }") (bytes "080001\n080100\n020000\n0B0000\n")
    ∷ whole (bytes "monitor m{var z0=0in 00..1;keep true;try!0==z0;method f0{waituntil(z0!=00){z0:=z0-1;}}method y1{waituntil(z0<1){z0:=z0+1;}waituntil(z0!=0){z0:=z0-1;}}}") (bytes "060000\n010000\n070000\n080000\n000000\n0B0000\n040101\n040201\n0F0101\n")
    ∷ []

unfoldable told : List (List ℕ)
told =
    (bytes "00010100\n01000100\n0084FFFF01FFFFFFFFFFFFFFFFFFFFFFFFFF\n0084FFFF01FFFFFFFFFFFFFFFFFFFFFFFFFF\n")
    ∷ (bytes "0E00010000\n0E00010000\n")
    ∷ (bytes "0800720000\n0800720000\n")
    ∷ (bytes "00010100\n01010100\n02000100\n008000FF01FFFFFFFF00FFFFFFFFFFFF00FF\n008000FF01FFFFFFFF00FFFFFFFFFFFF00FF\n")
    ∷ (bytes "03005E0000\n03005E0000\n")
    ∷ (bytes "04009C0000\n04009C0000\n")
    ∷ (bytes "00010100\n01010100\n02010100\n03000100\n0084FFFFFF01FFFF01FFFFFFFFFF00FFFFFF\n0E00060000\n")
    ∷ (bytes "0501140000\n0501140000\n")
    ∷ (bytes "00010000\n01000101\n02010000\n007FFFFFFF0101FFFFFFFFFFFFFFFFFFFFFF\n007FFFFFFF0101FFFFFFFFFFFFFFFFFFFFFF\n")
    ∷ (bytes "00010100\n01010100\n02000100\n03010100\n0D00020000\n0D00020000\n")
    ∷ (bytes "0F00FE0000\n0F00FE0000\n")
    ∷ (bytes "0080817F7FFFFFFFFFFFFFFFFFFFFF0000FFFFFF00\n0080817F7FFFFFFFFFFFFFFFFFFFFF0000FFFFFF00\n")
    ∷ (bytes "02002C0000\n02002C0000\n")
    ∷ (bytes "0900010000\n0900010000\n")
    ∷ (bytes "00010000\n0084FF01FF010101FFFFFFFF01FFFFFFFFFF\n0084FF01FF010101FFFFFFFF01FFFFFFFFFF\n")
    ∷ (bytes "0401120000\n0401120000\n")
    ∷ (bytes "00010100\n01000100\n02000100\n0080FFFFFFFFFF01FFFFFFFFFF02FFFFFFFF\n0080FFFFFFFFFF01FFFFFFFFFF02FFFFFFFF\n")
    ∷ (bytes "0C00020000\n0C00020000\n")
    ∷ (bytes "07000C0000\n07000C0000\n")
    ∷ (bytes "00010100\n01000100\n02010100\n00810000FFFFFFFF000000FFFF00FFFFFF12\n00810000FFFFFFFF000000FFFF00FFFFFF12\n")
    ∷ []

same : map printing asked ≡ told
unfolding asked told printing
same = refl
