-- What the second program printed for cases 80 to 99 of seed 7, and that the definitions print the same. Made by tools/theorems.
use Prim.Native.Nat.{ℕ}
use mathlib.Core.Path.{◌≡◌, refl}
use mathlib.Core.List.{List, [], ◌∷◌, ◌++◌, map}
use Rattle.syntax.specs.Bytes.{bytes}
use Rattle.meaning.proofs.Printing.{Case, whole, printing}

unfoldable asked : List Case
asked =
    whole (bytes "monitor m{var e0=0in-01..0;keep true;method A0{waituntil(e0 mod 002==000){e0:=e0-1;}}method b1{waituntil(e0!=0){e0:=0;}}method e2{waituntil(e0 mod 2==000){e0:=-1;}}}") (bytes "040100\n0E0100\n010100\n080100\n0A0100\n000001\n040101\n")
    ∷ whole (bytes "monitor m { var g0 = 0 in 0 .. 1 ; keep true ; method d0 { waituntil ( g0 > 0 ) { g0 := g0 - 1 ; } } method Y1 { waituntil ( g0 == 00 ) { g0 := 1 ; } } method a2 { waituntil ( g0 > 000 ) { g0 := g0 - 1 ; } waituntil ( g0 > 0 ) { g0 := g0 - 1 ; } } }") (bytes "010000\n0E0000\n090200\n0C0000\n0D0101\n000201\n000300\n010000\n0F0101\n0C0001\n080101\n020001\n")
    ∷ whole (bytes "monitor m{var f0=2in 0..3;var b1=1in 0..002;keep f0!=2;try f0!=3;method Z0{waituntil(b1>0){b1:=b1-1;}}method d1{waituntil(f0<3){f0:=f0+1;}}method y2{waituntil((b1>2)||!f0<3){b1:=2-b1;}}} ") ([])
    ∷ whole (bytes "monitor m{var Y0=3in 0..009;var d1=-1in-1..0;keep true;method b0{waituntil(d1+d1!=2){if(2>Y0){}}waituntil(Y0>6){if(Y0==4){}}}}\n") (bytes "030001\n030100\n090001\n090100\n0E0001\n0E0100\n060001\n060100\n050001\n050100\n")
    ∷ whole (bytes "monitor m{var B0=126in 125..127;keep(B0!=125);try B0<127;try B0<=126;method Z0{waituntil(B0>125){}}method e1{waituntil(999mod 127==1){if(B0>125){B0:=B0-1;}else{B0:=127;}}}method a2{waituntil(999mod 127==1){if(B0>126){}else{B0:=127;((((((({({{({}}})}})})))))))}} " ++ ((13 ∷ []))) (bytes "000301\n090300\n")
    ∷ whole (bytes "monitor m{var b0=4in 1..4;keep true;method Y0{waituntil(b0==4" ++ ((205 ∷ []) ++ (bytes "{b"))) (bytes "030201\n030300\n020000\n")
    ∷ whole (bytes "monitor m{var c0=6in 3..6;keep true;method B0{waituntil(c0==006){c0:=3;}waituntil(c0==6){}}method y1{waituntil(c0!=6){c0:=6;}}}") (bytes "0B0200\n0E0200\n080200\n030200\n0F0200\n060001\n060100\n0B0201\n060101\n060200\n0E0200\n0F0200\n")
    ∷ whole (bytes "monitor m{var v3=0in 0..0;var v5=0in 0..0;var x0=-1in-1..02;var v4=0in 0..0;var v2=000in 0..0;var v1=000in 0..0;var v6=0in 0..0;keep true;method y0{waituntil(true){}}}") (bytes "080201\n000101\n010101\n0E0001\n")
    ∷ whole (bytes "monitor m{var y0=0in 0..01;var f1=0in 0..3;var y2=-1in-1..0;keep true;method x0{waituntil(y0==1){y0:=0;}waituntil(y2==0){y2:=00;}}method x1{waituntil(true){y0:=1;}}}") (bytes "090000\n050000\n020201\n090001\n090100\n0A0000\n080000\n0F0000\n010000\n020000\n")
    ∷ whole (bytes "monitor m { var X0 = 4 in 1 .. 4 ; var b1 = 7 in 5 .. 7 ; var B2 = - 1 in - 1 .. - 1 ; var X3 = 0 in 0 .. 0 ; keep true ; method c0 { waituntil ( b1 > 5 ) { b1 := b1 - 1 ; } waituntil ( X0 < 4 ) { X0 := X0 + 1 ; } waituntil ( b1 < 7 ) { b1 := b1 + 1 ; } } }") (bytes "020001\n020100\n020000\n0E0200\n000200\n")
    ∷ whole (bytes "monitor m{var B0=5in 5..7;var y1=-1in-1..2;var b2=0in 0..0;keep b2 mod 999--999mod y1<0||!(y1 mod b2>=0);try true&&!(B0 mod-0<1);method A0{waituntil(y1==-1&&y1<-1||B0>=5){if(y1!=1){if(y1>=-1){B0:=5;}}}}method Z1{waituntil(B0!=7){if(B0>=5){}else{if(B0==7){}}}}}" ++ ((9 ∷ []) ++ (bytes "\n"))) (bytes "050000\n0F0200\n000000\n0A0000\n")
    ∷ whole (bytes "monitor m{var A0=0in 0..1;var Z1=1in 0..1;keep true;method a0{waituntil(A0>00){A0:=0;}}method Z1{waituntil(A0!=01){A0:=1;}waituntil(A0!=1){A0:=1;}waituntil(A0!=1){A0:=A0+1;}}}  ") (bytes "0A0000\n050000\n090000\n010000\n000000\n070101\n070200\n020100\n0A0001\n070201\n070300\n")
    ∷ whole (bytes "monitor m{var B0=126in 128..126;keep true;method Z0{w" ++ ((127 ∷ []) ++ (bytes "aituntil(B0<127){B0:=B0+1;}}method g1{waituntil(B0<127){if(B0>126){B0:=B0-1;}else{B0:=127;}}}method b2{waituntil(B0<127){B0:=127;}}} "))) (bytes "0D0201\n0D0300\n0F0000\n000000\n070201\n070300\n090201\n090300\n0C0201\n0C0300\n020201\n020300\n")
    ∷ whole (bytes "monitor m{var a0=1in 0..1;var Z1=0in 0..2;keep true;try Z1!=1;try a0<=1;method e0{waituntil(Z1>000){Z1:=Z1-1;}}method z1{waituntil(Z1>0){if(Z1==1){Z1:=0;}}}method Z2{waituntil(a0==1){if(a0==a0||a0 mod Z1<1){}else{}a0:=1;}}}") (bytes "030201\n030200\n010200\n000200\n")
    ∷ whole (bytes "monitor m{var Y0=0in 0..2;var g1=1in 0..2;keep true;method d0{waituntil(g1>000){if(g1!=1&&Y0<=00){g1:=0;}else{Y0:=2;}}}method y1{waituntil(g1>0){g1:=002;}}method f2{waituntil(true){}}method f3{waituntil(true){}}method X4{waituntil(true){}}method a5{waituntil(true){}}method Y6{waituntil(true){}}method B7{waituntil(true){}}}") (bytes "080201\n000201\n090601\n070501\n060501\n0A0401\n0E0301\n060701\n")
    ∷ whole (bytes "monitor m{var e0=05in 5..7;var z1=-1in-1..2;var b2=0in 0..000;keep true;method f0{waituntil(true){if(!true){}else{if!true){b2:=1;}}}waituntil(true){e0:=6;}waituntil true z1>2&&e0<=007&&e0>5){e0:=e0;}}}") (bytes "a method=>")
    ∷ whole (bytes "monitor m { var a0 = 2 in 0 .. 2 ; keep ! a0 <= 0 ; method y0 { waituntil ( a0 < 0 ) { a0 := 0 ; } } method x1 { waituntil ( a0 < 0 ) { a0 := a0 - 1 ; } waituntil ( a0 > 0 ) { a0 := 2 ; } } }") (bytes "040000\n000100\n050100\n090100\n030000\n0A0100\n")
    ∷ whole (bytes "monitor m{var Y0=4in 3..4;var f1=0in 0..2;keep true;method a0{waituntil(Y0 mod 2==000){Y0:=03;}waituntil(Y0 mod 2==0){Y0:=Y0-1;}}method x1{waituntil(Y0!=004){Y0:=4;}}method e2{waituntil(f1!=0){f1:=000;}}}") (bytes "090001\n090100\n070201\n0000B7\n0C0001\n0C0100\n070300\n090100\n")
    ∷ whole (bytes "monitor m { var Z0 = 0 in 4 .. 0 ; var Z1 = 0 in 0 .. 1 ; var b2 = 1 in 0 .. 1 ; keep Z1 != 0 ; method Z0 { waituntil ( true ) { Z0 := 3 ; } } method y1 { waituntil ( true ) { Z0 := 3 ; } } }") ([])
    ∷ whole (bytes "monitor m{var Z0=3in 1..5;var X1=0in 0..6;keep true;try!(X1==0);try X1<01;try X1<2;try X1<3;method x0{waituntil(Z0<5){Z0:=Z0+1;}waituntil(X1<6){X1:=X1+1;}}method d1{waituntil(Z0<=Z0){Z0:=1;}waituntil(Z0>1){Z0:=Z0-1;}}}") (bytes "050001\n050101\n0C0201\n0C0300\n090001\n090101\n0C0301\n020201\n")
    ∷ []

unfoldable told : List (List ℕ)
told =
    (bytes "00010100\n01000100\n02010100\n0080FF01FFFFFFFFFFFF01FF01FFFFFF01FF\n0080FF01FFFFFFFFFFFF01FF01FFFFFF01FF\n")
    ∷ (bytes "00010100\n01000100\n02010100\n03010100\n0E00090000\n0E00090000\n")
    ∷ (bytes "08002C0000\n08002C0000\n")
    ∷ (bytes "00837FFFFFFF01FF0101FFFF01FFFFFFFF01FF\n00837FFFFFFF01FF0101FFFF01FFFFFFFF01FF\n")
    ∷ (bytes "0300EF0000\n0300EF0000\n")
    ∷ (bytes "02003D0000\n02003D0000\n")
    ∷ (bytes "00010100\n02000101\n0086FFFFFF02FFFF02FF02FFFFFFFFFF0202\n0E000A0000\n")
    ∷ (bytes "0500700000\n0500700000\n")
    ∷ (bytes "02000100\n0080807FFF0000FFFF00FFFF000100FFFFFFFF00\n0080807FFF0000FFFF00FFFF000100FFFFFFFF00\n")
    ∷ (bytes "00020101\n02000101\n0D00020000\n0D00020000\n")
    ∷ (bytes "0F004F0000\n0F004F0000\n")
    ∷ (bytes "00010100\n01000100\n02000100\n03000100\n008181000001FFFF00FF03FF00FFFFFFFFFFFF\n008181000001FFFF00FF03FF00FFFFFFFFFFFF\n")
    ∷ (bytes "0200350000\n0200350000\n")
    ∷ (bytes "0900020003\n0900020003\n")
    ∷ (bytes "008081FFFFFFFFFFFFFFFFFFFFFFFFFFFFFFFF\n008081FFFFFFFFFFFFFFFFFFFFFFFFFFFFFFFF\n")
    ∷ (bytes "0400740000\n0400740000\n")
    ∷ (bytes "008201FFFF000001FFFFFF0101FFFFFFFFFF\n008201FFFF000001FFFFFF0101FFFFFFFFFF\n")
    ∷ (bytes "00010100\n01010100\n02000100\n0C00030000\n0C00030000\n")
    ∷ (bytes "07000C0000\n07000C0000\n")
    ∷ (bytes "00030101\n02000101\n03000101\n008182FFFF13FFFFFFFFFFFFFFFFFFFFFFFFFF\n008182FFFF13FFFFFFFFFFFFFFFFFFFFFFFFFF\n")
    ∷ []

same : map printing asked ≡ told
unfolding asked told printing
same = refl
