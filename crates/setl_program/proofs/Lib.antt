mod Translated
