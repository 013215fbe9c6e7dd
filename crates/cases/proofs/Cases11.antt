-- What the second program printed for cases 220 to 239 of seed 7, and that the definitions print the same. Made by tools/theorems.
use Prim.Native.Nat.{ℕ}
use mathlib.Core.Path.{◌≡◌, refl}
use mathlib.Core.List.{List, [], ◌∷◌, ◌++◌, map}
use Rattle.syntax.specs.Bytes.{bytes}
use Rattle.meaning.proofs.Printing.{Case, whole, printing}

unfoldable asked : List Case
asked =
    whole (bytes "monitor m{var B0=1in 1..2;var Y1=0in 0..1;var x2=1in 1..2;var f3=1in 001..4;keep true;method g0{waituntil(Y1<1){Y1:=Y1+1;x2:=1-1;x2:=1;}waituntil(Y1<1){Y1:=1;}}}\n ") (bytes "040101\n040101\n030201\n040201\n030201\n040001\n")
    ∷ whole (bytes "monitor m{var h0=-87in-87..-83;var Z1=0in 0..3;var e2=0in 0..000;var z3=0in 0..00;var c4=0in 0..0;var g5=0in 0..0;keep true;try Z1<=2;try e2<=0;method B0{waituntil(g5==0){}}method e1{waituntil(g5+z3==00){if(g5==0){h0:=-83;}}}method a2{waituntil(g5==0){if(e2<=0){z3:=0;}else{c4:=0;Z1:=Z1+1;}}}}") (bytes "020101\n080201\n090001\n090101\n080201\n")
    ∷ whole (bytes "monitor m{var h0=1in 1..4;keep!h0==4;try h0==1;try h0==1;try h0==1;method e0{waituntil(h0 mod 1>=h0 mod 10){h0:=1;}}method X1{waituntil(h0 mod 3==0method{if(h0<4){h0&&:=h0+1;}else{h0:=1;}}waituntil(h0>0){if(h0==1){h0:=01;if(h0<1){}}else{h0:=1;h0:=h0-1;}}}method g2{waituntil(h0<=001){if(h0>=1){}}}}") (bytes "000301\n000300\n0C0001\n0C0101\n0C0200\n060300\n030300\n0E0300\n0A0300\n")
    ∷ whole (bytes "monitor m{var h0=-128in-128..-126;keep true;try!(h0<=-128);method z0{waituntil((true)){if(false){h0:=-129;}}}method d1{waituntil(h0<-126&&h0<-126&&h0>=-127){if(h0>=-128){}else{h0:=-128;}}}method X2{waituntil(h0<-126&&h0<-126&&h0>=-127){h0:=h0-1;}waituntil(h0<-126){if(h0<-128){}}}}") (bytes "090200\n050100\n")
    ∷ whole (bytes "monitor m{var g0=0in 0..4;keep true;method x0{waituntil(g0+g0>=3){if(g0>000){}}}method c1{waituntil(g0!=0){}waituntil(g0==0){if(g0!=002){}}}}") (bytes "0B0000\n000000\n020100\n090100\n-10000\n040000\n")
    ∷ whole (bytes "monitor m{var Z0=123in 123..127;var a1=1in-2..62;var w1=0in 0..64;var w2=0in 0..64;keep true;try a1>=1;method x0{waituntil(123>Z0){if(Z0<123){}}}method h1{waituntil(123>Z0){a1:=a1-1;}}method e2{waituntil(a1<1){a1:=a1+1;}}}" ++ ((13 ∷ []))) (bytes "0C0201\n0C0200\n0E0200\n090101\n090200\n")
    ∷ whole (bytes "monitor m { var Z0 = 3 in 00 .. 3 ; keep true ; method e0 { waituntil ( Z0 == 3 ) { Z0 := Z0 - 1 ; } } method z1 { waituntil ( Z0 != 003 ) { Z0 := 3 ; } } method a2 { waituntil ( Z0 != 03 ) { Z0 := 3 ; } } } ") (bytes "060100\n020200\n070001\n060101\n0A0100\n070001\n020201\n")
    ∷ whole (bytes "monitor m{var a0=02in 001..02;var Y1=-01in-1..0;var a2=005in 5..8;keep true;method a0{waituntil(a2<8){a2:=a2+1;}waituntil(a0==1){a0:=2;}waituntil(a0>0){a0:=1;}}method A1{waituntil(a2>5){a2:=a2-1;}}}") (bytes "030300\n010300\n0C0300\n050300\n090300\n0A0001\n0A0100\n030301\n030001\n030100\n")
    ∷ whole (bytes "monitor m{var h0=39in 39..40;var h1=2in 1..8;keep false;try h1==2;method a0{waituntil(h1<=8){h0:=40;}}method f1{waituntil(h1<=8){if(h1+h1 mod h1>h1-1){}else{if(h1>001){h1:=h1-1;}h1:=1;}}waituntil(true){h0:=40;}}method Y2{waituntil(h1<5){if(h1!=2){h1:=9;}}}}") (bytes "080101\n080101\n0F0001\n0F0101\n0F0101\n0B0101\n090001\n090101\n090101\n")
    ∷ whole (bytes "monitor m{var e0=6in 3..6;var Z1=1in 1..2;keep true;method b0{waituntil(e0!=03){e0:=3;}}method d1{waituntil(e0==3){e0:=6;}}method h2{waituntil(Z1==02){Z1:=1;}}}") (bytes "030100\n0A0100\n0C0200\n0D0001\n030101\n")
    ∷ whole (bytes "monitor m{var Y0=1in 1..2;keep true;try Y0!=2;try!(Y0>=1);method a0{waituntil(Y0>1){Y0:=1;}waituntil(Y0==b&&Y0<1){if(!true){}else{if((({({({{(!true){Y0:=0;}}}}})})})))}method y1{waituntil(Y0 mod Y0==0){if(Y0<=1){Y0:=Y0+1;}}}}") (bytes "0C0100\n0B0200\n070100\n020001\n0C0101\n090100\n0E0001\n0B0201\n030200\n0B0200\n080001\n")
    ∷ whole (bytes "(x>}|9 <x(>)9-1:<1{-0{|010Za9=-1+xZ(:=1&(!1}:{ ! (x{(_\n0_=0a<Z&<{}+a<a=_=_x&1>+;{0+x&)1a->x1}}1&}>_0|9a >!0(Z1-:\n&|a&9}}x;-0x9>aZ(&a}+&0_x-0<9):-><0>9|_:) >+(!Z}9-<}(a)") ([])
    ∷ whole (bytes "monitor m{var x0=1in 1..3;keep true;try x0==1;try x0<=1||x0==1;try x0!=3;method g0{waituntil(x0 mod 2==0){x0:=x0-1;}}method y1{waituntil(x0<03){x0:=x0+1;}waituntil(x0 mod 2==00){x0:=1;}}method e2{waituntil(x0 mod 002==00){x0:=1;}}}" ++ ((13 ∷ []) ++ (bytes " "))) (bytes "0B0000\n060000\n010101\n010201\n0E0300\n070300\n010101\n010201\n070300\n010101\n010201\n010101\n")
    ∷ whole (bytes "monitor m{var e0=-001in-1..0;var d1=1in 1..2;keep true;try e0<0;try u==u;method y0{waituntil(e0>-001){e0:=e0-1;}waituntil(e0==-1){e0:=e0+1;}}method a1{waituntil(e0==-001){e0:=e0+1;}}method h2{waituntil(d1>1){d1:=1;}}}  ") (bytes "0E0101\n020101\n0B0001\n020000\n0B0100\n0E0000\n0D0100\n090100\n")
    ∷ whole (bytes "monitor m { var g0 = 0 in 0 .. 4 ; keep 0 == g0 || g0 > 2 ; method h0 { waituntil ( 1 <= 0 || true ) { if ( 4 < g0 ) { g0 := 0 ; } } } method f1 { waituntil ( 1 <= 0 || true ) { if ( 2 > g0 ) { } else { if ( g0 >= 03 ) { } } } } }\n") (bytes "000101\n090101\n000001\n090101\n")
    ∷ whole (bytes "monitor m{var f0=-49in-49..-047;var z1=4in 0..04;keep true;method h0{waituntil(true){f0:=-48;}}method A1{waituntil(f0==z1){z1:=0;}}}") (bytes "0D0100\n060100\n060101\n020101\n0E0001\n")
    ∷ whole (bytes "monitor m{var h0=0in 0..1;keep true;method g0{waituntil(h0>0||h0 mod h0>0){h0:=0;}}method Y1{waituntil(h0!=000&&h0<0||h0==1){if(h0>0){h0:=h0-1;}}}method A2{waituntil(0>=h0){h0:=h0;}waituntil(h0>000){if(1>h0){}else{if(h0>1){}else{h0:=0;}}}}}") ([])
    ∷ whole (bytes "monitor m{var y0=1in 1..3;keep true;method g0{waituntil(y0>1){y0:=y0-1;}}method z1{waituntil(y0!=003){y0:=3;}}method f2{waituntil(y0>01){y0:=1;}waituntil(y0>001){y0:=y0-1;}}}\n") (bytes "080101\n080201\n080300\n020101\n070100\n010100\n000201\n000300\n020101\n")
    ∷ whole (bytes "monitor m{var d0=7in 0..7;keep true;try!(d0!=6);try d0<8;method f0{waituntil(d0 mod 999>=2){d0:=07;}}method y1{waituntil(d0 mod 05==1+d0 mod 3){d0:=d0-1;}}method h2{waituntil((true)999999999999999999){if(-1mod 2!=-1){d0:=0;}else{if(d0<7){d0:=d0+1;}else{d0:=0;}}}}}") ([])
    ∷ whole (bytes "monitor m{var z0=-9in-9..-2;var h1=000in 0..3;keep true;try h1!=1;try z0==") (bytes "070000\n0A0000\n000000\n060000\n090000\n0C0000\n")
    ∷ []

unfoldable told : List (List ℕ)
told =
    (bytes "0900000000\n0900000000\n")
    ∷ (bytes "002D8080808080FFFFFFFFFFFFFFFFFFFFFFFFFFFFFFFF\n002D8080808080FFFFFFFFFFFFFFFFFFFFFFFFFFFFFFFF\n")
    ∷ (bytes "0400930000\n0400930000\n")
    ∷ (bytes "0000FFFFFFFFFF01FFFFFF02FFFFFFFFFFFF\n0000FFFFFFFFFF01FFFFFF02FFFFFFFFFFFF\n")
    ∷ (bytes "0C00040000\n0C00040000\n")
    ∷ (bytes "0700310000\n0700310000\n")
    ∷ (bytes "00010100\n01000100\n02000100\n0083FFFFFFFFFFFFFFFFFFFF01FFFFFFFFFF\n0083FFFFFFFFFFFFFFFFFFFF01FFFFFFFFFF\n")
    ∷ (bytes "00030101\n02010100\n03000101\n00827F86FF03FF01FF03FFFFFF0301FF03FFFFFF\n00827F86FF03FF01FF03FFFFFF0301FF03FFFFFF\n")
    ∷ (bytes "08002D0000\n08002D0000\n")
    ∷ (bytes "00010100\n01000100\n008681FFFFFFFFFFFFFFFFFFFF01FF02FFFFFF\n008681FFFFFFFFFFFFFFFFFFFF01FF02FFFFFF\n")
    ∷ (bytes "03008C0000\n03008C0000\n")
    ∷ (bytes "0200040000\n0200040000\n")
    ∷ (bytes "01000100\n0082FF12FFFFFFFF0003FFFFFF00FFFF03FF\n0E00080000\n")
    ∷ (bytes "0600440000\n0600440000\n")
    ∷ (bytes "0080FFFFFFFFFFFFFFFFFFFFFFFFFFFFFFFF\n0080FFFFFFFFFFFFFFFFFFFFFFFFFFFFFFFF\n")
    ∷ (bytes "0E00020000\n0E00020000\n")
    ∷ (bytes "0F00410000\n0F00410000\n")
    ∷ (bytes "00010100\n01000101\n02010100\n03010100\n00830301FFFFFFFFFF0103FFFFFFFFFFFFFF\n00830301FFFFFFFFFF0103FFFFFFFFFFFFFF\n")
    ∷ (bytes "0200B50000\n0200B50000\n")
    ∷ (bytes "04004A0000\n04004A0000\n")
    ∷ []

same : map printing asked ≡ told
unfolding asked told printing
same = refl
